-- The transposed adjoint of a matrix that stops at limits.
--     adjoint_column_within        the adjoints of the entries at one place, from the first row to the last
--     transpose_adjoint_within     the rows that these are, for the columns in order
--     AdjointUnlimited             without limits it is the transposed adjoint of `ore_rows/specs/Rows.antt`
--     AdjointAtMost                within limits it is what it is without, or stops
--     AdjointValue                 so what it gives within limits is the transposed adjoint
use Rattle.std.specs.Prelude.{◌≡◌, ℕ, List}
use Rattle.std.specs.List.{range_with_len}
use Rattle.std.specs.declared.result.Result.{Result}
use Rattle.std.specs.declared.result.Result.TheVariants.{Ok}
use Rattle.ore_algebra.specs.Limits.{Limits, Cause, unlimited, map_within, IsAtMost}
use Rattle.ore_rational.specs.Field.{rationals}
use Rattle.ore_monomial.specs.Signature.{Signature}
use Rattle.ore_ring.specs.AdjointWithin.{adjoint_within}
use Rattle.ore_rows.specs.Rows.{Row, column, transpose_adjoint}

module _ (l : Limits) (s : Signature) where
  -- row j of the result
  abbrev pub adjoint_column_within : ℕ → List (Row rationals) → Result (Row rationals) Cause
  adjoint_column_within j a = map_within (adjoint_within l s) (column rationals s j a)

  -- of a matrix of n columns
  abbrev pub transpose_adjoint_within : ℕ → List (Row rationals) → Result (List (Row rationals)) Cause
  transpose_adjoint_within n a = map_within (λ j. adjoint_column_within j a) (range_with_len 0 n)

-- ---- laws, for every list of rows and every number of columns

module _ (s : Signature) where
  -- without limits there is a value, the transposed adjoint of `ore_rows/specs/Rows.antt`
  abbrev pub AdjointUnlimited : Type 0
  AdjointUnlimited = (n : ℕ) (a : List (Row rationals)) → transpose_adjoint_within unlimited s n a ≡ Ok (transpose_adjoint rationals s n a)

  -- what comes within limits is what comes without them, or a stop
  abbrev pub AdjointAtMost : Type 0
  AdjointAtMost = (l : Limits) (n : ℕ) (a : List (Row rationals)) → IsAtMost (transpose_adjoint_within l s n a) (transpose_adjoint_within unlimited s n a)

  -- a value that comes within limits is the transposed adjoint
  abbrev pub AdjointValue : Type 0
  AdjointValue = (l : Limits) (n : ℕ) (a x : List (Row rationals)) → transpose_adjoint_within l s n a ≡ Ok x → x ≡ transpose_adjoint rationals s n a
