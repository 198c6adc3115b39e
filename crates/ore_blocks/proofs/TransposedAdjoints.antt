-- The transposed adjoint of a matrix within limits, by its rows.
--     as_matrix                       the rows of the transposed adjoint as a matrix
--     adjoint_value, adjoint_stop     within those of the program it is formed where its rows are, and stops where they stop
--     adjoint_gives                   a call that gives the rows, with their columns, gives the matrix
--     adjoint_unlimited               without limits it is the transposed adjoint
--     adjoint_at_most                 within limits it is what it is without, or stops
use Rattle.std.proofs.Common.{◌≡◌, List, length, sym, ap, ◌∙◌}
use Rattle.std.specs.Prelude.{IfOk}
use Rattle.std.specs.declared.result.Result.{Result}
use Rattle.std.specs.declared.result.Result.TheVariants.{Ok, Err}
use Rattle.ore_algebra.specs.Limits.{Limits, Cause, program, unlimited, IsAtMost}
use Rattle.ore_rational.specs.Field.{rationals}
use Rattle.ore_monomial.specs.Gives.{Fails, Gives}
use Rattle.ore_monomial.specs.Signature.{Signature}
use Rattle.ore_monomial.proofs.Stops.{fails_like}
use Rattle.ore_monomial.specs.declared.stop.RingStop.{RingStop}
use Rattle.ore_rows.specs.Rows.{Row, transpose_adjoint}
use Rattle.ore_rows.specs.Stored.{OperatorMatrix, rows_of}
use Rattle.ore_adjoint.specs.AdjointMatrix.{transpose_adjoint_within}
use Rattle.ore_adjoint.proofs.AdjointValues.{matrix_unlimited, matrix_at_most}
use Rattle.ore_blocks.specs.CheckBlock.{RowMatrix, row_matrix_of}
use Rattle.ore_blocks.specs.KernelCourse.{transposed_adjoint_within}
use Rattle.ore_blocks.proofs.Converted.{rows_count}

-- those of m, or the cause of their stop
abbrev as_matrix : RowMatrix → Result (List (Row rationals)) Cause → Result RowMatrix Cause
as_matrix m formed = elim formed [ Ok rows ↦ Ok (record { cols = length m.rows; rows = rows }) | Err cause ↦ Err cause ]

module _ (s : Signature) (m : RowMatrix) where
  pub adjoint_value : (rows : List (Row rationals)) → transpose_adjoint_within program s m.cols m.rows ≡ Ok rows → transposed_adjoint_within program s m ≡ Ok (record { cols = length m.rows; rows = rows })
  unfolding transposed_adjoint_within
  adjoint_value rows e = ap (as_matrix m) e

  adjoint_cause : (c : Cause) → transpose_adjoint_within program s m.cols m.rows ≡ Err c → transposed_adjoint_within program s m ≡ Err c
  unfolding transposed_adjoint_within
  adjoint_cause c e = ap (as_matrix m) e

  pub adjoint_stop : (e : RingStop) → Fails e (transpose_adjoint_within program s m.cols m.rows) → Fails e (transposed_adjoint_within program s m)
  adjoint_stop e = fails_like e _ _ adjoint_cause

pub adjoint_gives : (s : Signature) (m : OperatorMatrix) (result : Result OperatorMatrix RingStop) → IfOk result (λ t. t.cols ≡ length m.rows)
    → Gives rows_of result (transpose_adjoint_within program s m.cols (rows_of m)) → Gives row_matrix_of result (transposed_adjoint_within program s (row_matrix_of m))
adjoint_gives s m (Ok t) cols gives = adjoint_value s (row_matrix_of m) (rows_of t) gives ∙ ap (λ n. Ok (record { cols = n; rows = rows_of t })) (rows_count m ∙ sym cols)
adjoint_gives s m (Err e) cols fails = adjoint_stop s (row_matrix_of m) e fails

pub adjoint_unlimited : (s : Signature) (m : RowMatrix) → transposed_adjoint_within unlimited s m ≡ Ok (record { cols = length m.rows; rows = transpose_adjoint rationals s m.cols m.rows })
unfolding transposed_adjoint_within
adjoint_unlimited s m = ap (as_matrix m) (matrix_unlimited s m.cols m.rows)

pub adjoint_at_most : (l : Limits) (s : Signature) (m : RowMatrix) → IsAtMost (transposed_adjoint_within l s m) (transposed_adjoint_within unlimited s m)
unfolding transposed_adjoint_within
adjoint_at_most l s m = by (transpose_adjoint_within l s m.cols m.rows) (matrix_at_most l s m.cols m.rows)
  where
    by : (formed : Result (List (Row rationals)) Cause) → IsAtMost formed (transpose_adjoint_within unlimited s m.cols m.rows) → IsAtMost (as_matrix m formed) (as_matrix m (transpose_adjoint_within unlimited s m.cols m.rows))
    by (Ok rows) h = ap (as_matrix m) h
    by (Err cause) h = tt
