-- The search for an inverse, before the identities of its certificate are formed.
--     answer_by        what the last state of a run answers, once the unit rows are reduced by it
--     left_search      the run on a matrix, and then its unit rows
--     found_within     a matrix as the inverse, or why it isn't formed
--     turned           the transposed adjoint of an inverse, where there is one
use Rattle.std.specs.Prelude.{length}
use Rattle.std.specs.declared.result.Result.{Result}
use Rattle.std.specs.declared.result.Result.TheVariants.{Ok, Err}
use Rattle.ore_algebra.specs.Limits.{Cause, program}
use Rattle.ore_course.specs.Course.{Done, ◌>>=◌, forced}
use Rattle.ore_rational.specs.Field.{rationals}
use Rattle.ore_monomial.specs.Signature.{Signature}
use Rattle.ore_rows.specs.ReduceRows.{Reductions, AllReduce, LeavesRest}
use Rattle.ore_rows.specs.Rows.{identity_rows}
use Rattle.ore_pairs.specs.Run.{RunState}
use Rattle.ore_blocks.specs.BlockOfRun.{outside_block_of}
use Rattle.ore_blocks.specs.CheckBlock.{RowMatrix, row_matrix_of}
use Rattle.ore_blocks.specs.KernelCourse.{RunCourse, run_on, transposed_adjoint_within}
use Rattle.ore_check.specs.Plans.{stored, reduced}
use Rattle.ore_inverse.specs.declared.answer.InverseAnswer.{InverseAnswer}
use Rattle.ore_inverse.specs.declared.answer.InverseAnswer.TheVariants.{Found, None}

module _ (s : Signature) where
  -- of a run on a: the combinations of its rows, or the first unit row of which something is left
  abbrev pub answer_by : RowMatrix → RunState rationals → Reductions rationals → InverseAnswer
  answer_by a last (AllReduce combinations) = Found (stored s (record { cols = length a.rows; rows = combinations }))
  answer_by a last (LeavesRest k w) = None k (outside_block_of s a last w.steps w.row)

  -- of the matrix a, within the limits of the program
  unfoldable pub left_search : RowMatrix → RunCourse InverseAnswer
  left_search a = do
    last ← run_on program s a
    units ← forced (reduced program s a last (identity_rows rationals a.cols))
    Done (answer_by a last units)

  -- with the order of the signature
  abbrev pub found_within : Result RowMatrix Cause → Result InverseAnswer Cause
  found_within (Ok m) = Ok (Found (stored s m))
  found_within (Err cause) = Err cause

  -- an answer of the transposed adjoint of a matrix, as one of the matrix
  abbrev pub turned : InverseAnswer → Result InverseAnswer Cause
  turned (Found m) = found_within (transposed_adjoint_within program s (row_matrix_of m))
  turned (None k block) = Ok (None k block)
