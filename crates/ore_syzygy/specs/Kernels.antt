-- Kernels of matrices, beside the courses by which they are found.
--     IsLeftKernel       the rows of the generators are those of all rows that take a matrix to zeros
--     IsRightKernel      likewise the columns, of all columns that the matrix takes to zeros, by way of adjoints
--     adjoint_rows       the transposed adjoint of a matrix
--     IsRunOnAdjoint     a run by these choices on the transposed adjoint of a matrix
--     right_answer       the answer of the course of a right kernel
use Rattle.std.specs.Prelude.{◌≡◌, List, length}
use Rattle.ore_rational.specs.Field.{rationals}
use Rattle.ore_monomial.specs.Signature.{Signature}
use Rattle.ore_rows.specs.Rows.{IsExact, transpose_adjoint}
use Rattle.ore_rows.specs.Stored.{OperatorMatrix, rows_of}
use Rattle.ore_rows.specs.declared.choices.Choice.{Choice}
use Rattle.ore_blocks.specs.CheckBlock.{RowMatrix, row_matrix_of}
use Rattle.ore_blocks.specs.KernelCourse.{RightKernel}
use Rattle.ore_groebner.specs.Courses.{last_of}
use Rattle.ore_groebner.specs.Honest.{IsHonestRun}
use Rattle.ore_groebner.specs.declared.outcome.Finished.{Finished}
use Rattle.ore_syzygy.specs.declared.kernel.Kernel.{Kernel}

module _ (s : Signature) where
  -- the generators are the syzygies of the run on a: a column for each row of a
  pub record IsLeftKernel (a : OperatorMatrix) (k : Kernel) : Type 0 where
    pub generators : k.generators ≡ k.run.syzygies
    pub exact : IsExact rationals s a.cols (rows_of a) (rows_of k.generators)

  -- the generators are the transposed adjoint of the syzygies of the run on the transposed adjoint of r: a row for each
  -- column of r
  pub record IsRightKernel (r : OperatorMatrix) (k : Kernel) : Type 0 where
    pub rows : length k.generators.rows ≡ r.cols
    pub cols : k.generators.cols ≡ length k.run.syzygies.rows
    pub generators : rows_of k.generators ≡ transpose_adjoint rationals s r.cols (rows_of k.run.syzygies)
    pub exact : IsExact rationals s (length r.rows) (transpose_adjoint rationals s r.cols (rows_of r)) (transpose_adjoint rationals s k.generators.cols (rows_of k.generators))

  -- a row for each column, and a column for each row
  abbrev pub adjoint_rows : OperatorMatrix → RowMatrix
  adjoint_rows r = record { cols = length r.rows; rows = transpose_adjoint rationals s r.cols (rows_of r) }

  -- the choices lead to it
  abbrev pub IsRunOnAdjoint : OperatorMatrix → List Choice → Finished → Type 0
  IsRunOnAdjoint r choices f = (a : OperatorMatrix) × (row_matrix_of a ≡ adjoint_rows r) × IsHonestRun s a choices f

  -- the transposed adjoint, the last state of the run on its rows, and the generators
  abbrev pub right_answer : OperatorMatrix → Kernel → RightKernel
  right_answer r k = record { adjoint = adjoint_rows r; last = last_of k.run; generators = row_matrix_of k.generators }
