-- What the search for a kernel does in order: runs on the rows of matrices, and transposed adjoints.
--     RunCourse                     a course whose runs are on the rows of matrices
--     run_on                        a run on the rows of a matrix; its answer is the last state
--     syzygies_of                   the syzygies of a state, as a matrix
--     kernel_block                  the exact block of a state for its own syzygies
--     transposed_adjoint_within     the transposed adjoint of a matrix
--     RightKernel, right_kernel     the search for a right kernel, and its answer
use Rattle.std.specs.Prelude.{length}
use Rattle.std.specs.declared.result.Result.{Result}
use Rattle.std.specs.declared.result.Result.TheVariants.{Ok, Err}
use Rattle.ore_algebra.specs.Limits.{Limits, Cause}
use Rattle.ore_course.specs.Course.{Course, Done, ◌>>=◌, forced}
use Rattle.ore_rational.specs.Field.{rationals}
use Rattle.ore_monomial.specs.Signature.{Signature}
use Rattle.ore_rows.specs.Rows.{identity_rows}
use Rattle.ore_adjoint.specs.AdjointMatrix.{transpose_adjoint_within}
use Rattle.ore_pairs.specs.Run.{RunState}
use Rattle.ore_pairs.specs.Runner.{run_within}
use Rattle.ore_parts.specs.declared.block.ExactBlock.{ExactBlock}
use Rattle.ore_blocks.specs.CheckBlock.{RowMatrix}
use Rattle.ore_blocks.specs.BlockOfRun.{exact_block_of}

-- forced work and runs on the rows of matrices, in order
abbrev pub RunCourse : Type 0 → Type 0
RunCourse X = Course (RunState rationals) X

-- rows with a column for each row of the matrix of the run, also where there are none
abbrev pub syzygies_of : RowMatrix → RunState rationals → RowMatrix
syzygies_of a st = record { cols = length a.rows; rows = st.syzygies }

-- what takes the matrix a to zeros is the row module of the syzygies; the inside rows are unit rows
abbrev pub kernel_block : Signature → RowMatrix → RunState rationals → ExactBlock
kernel_block s a st = exact_block_of s a st (record { cols = length st.syzygies; rows = identity_rows rationals (length st.syzygies) })

-- the matrix of the run, which is the transposed adjoint of the one whose kernel is wanted; the last state; and the
-- transposed adjoint of its syzygies, whose columns generate the kernel
pub record RightKernel : Type 0 where
  pub adjoint : RowMatrix
  pub last : RunState rationals
  pub generators : RowMatrix

module _ (l : Limits) (s : Signature) where
  -- the first basis is forced work; then come the choices
  abbrev pub run_on : RowMatrix → RunCourse (RunState rationals)
  run_on a = run_within l s a.rows

  -- a row for each column, and a column for each row
  unfoldable pub transposed_adjoint_within : RowMatrix → Result RowMatrix Cause
  transposed_adjoint_within m = elim (transpose_adjoint_within l s m.cols m.rows) [ Ok rows ↦ Ok (record { cols = length m.rows; rows = rows }) | Err cause ↦ Err cause ]

  -- a run on the rows of the transposed adjoint, between two transposed adjoints
  unfoldable pub right_kernel : RowMatrix → RunCourse RightKernel
  right_kernel r = do
    adjoint ← forced (transposed_adjoint_within r)
    last ← run_on adjoint
    generators ← forced (transposed_adjoint_within (syzygies_of adjoint last))
    Done (record { adjoint = adjoint; last = last; generators = generators })
