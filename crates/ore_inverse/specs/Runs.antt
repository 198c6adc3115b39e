-- Complete runs on stored matrices.
--     IsRunOn      a run on this matrix
use Rattle.std.specs.Prelude.{◌<◌, ◌^◌, List, length}
use Rattle.ore_monomial.specs.Signature.{Signature}
use Rattle.ore_rows.specs.Stored.{OperatorMatrix}
use Rattle.ore_rows.specs.declared.choices.Choice.{Choice}
use Rattle.ore_parts.specs.OfSignature.{MatrixOf}
use Rattle.ore_groebner.specs.Honest.{IsHonestRun}
use Rattle.ore_groebner.specs.declared.outcome.Finished.{Finished}

module _ (s : Signature) where
  -- some choices lead on the matrix to it; as any stored one, the matrix has fewer than 2^63 rows and columns
  pub record IsRunOn (a : OperatorMatrix) (f : Finished) : Type 0 where
    pub choices : List Choice
    pub honest : IsHonestRun s a choices f
    pub matrix_of : MatrixOf s a
    pub few_rows : length a.rows < 2 ^ 63
    pub few_cols : a.cols < 2 ^ 63
