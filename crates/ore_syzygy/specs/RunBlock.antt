-- The blocks that are made of a complete run.
--     HasRun                a value is what a run on some matrix may answer
--     IsExactBlockOfRun     an exact block is the one of the run's state
--     IsOutsideBlockOfRun   so is an outside block
use Rattle.std.specs.Prelude.{◌≡◌, ◌<◌, ◌^◌, List, length}
use Rattle.ore_rational.specs.Field.{rationals}
use Rattle.ore_monomial.specs.Signature.{Signature}
use Rattle.ore_ring.specs.Ordered.{Ordered}
use Rattle.ore_rows.specs.Reduction.{Step}
use Rattle.ore_rows.specs.Stored.{OperatorMatrix, sums_of}
use Rattle.ore_rows.specs.declared.choices.Choice.{Choice}
use Rattle.ore_parts.specs.declared.block.ExactBlock.{ExactBlock}
use Rattle.ore_parts.specs.declared.block.OutsideBlock.{OutsideBlock}
use Rattle.ore_parts.specs.OfSignature.{MatrixOf}
use Rattle.ore_blocks.specs.CheckBlock.{row_matrix_of}
use Rattle.ore_blocks.specs.BlockOfRun.{exact_block_of, outside_block_of}
use Rattle.ore_groebner.specs.Courses.{last_of}
use Rattle.ore_groebner.specs.Honest.{IsHonestRun}
use Rattle.ore_groebner.specs.declared.outcome.Finished.{Finished}

module _ (s : Signature) (f : Finished) where
  -- some choices lead on a matrix of the signature to it; as any stored one, the matrix has fewer than 2^63 rows and
  -- columns
  pub record HasRun : Type 0 where
    pub matrix : OperatorMatrix
    pub choices : List Choice
    pub honest : IsHonestRun s matrix choices f
    pub matrix_of : MatrixOf s matrix
    pub few_rows : length matrix.rows < 2 ^ 63
    pub few_cols : matrix.cols < 2 ^ 63

  -- on whatever matrix the run is, the block is that of its last state, by these rows for its syzygies
  abbrev pub IsExactBlockOfRun : OperatorMatrix → ExactBlock → Type 0
  IsExactBlockOfRun inside b = (a : OperatorMatrix) (choices : List Choice) → IsHonestRun s a choices f → b ≡ exact_block_of s (row_matrix_of a) (last_of f) (row_matrix_of inside)

  -- likewise, by the steps of a reduction and the row that they leave
  abbrev pub IsOutsideBlockOfRun : List (Step rationals) → List Ordered → OutsideBlock → Type 0
  IsOutsideBlockOfRun steps rest b = (a : OperatorMatrix) (choices : List Choice) → IsHonestRun s a choices f → b ≡ outside_block_of s (row_matrix_of a) (last_of f) steps (sums_of rest)
