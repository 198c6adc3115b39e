-- The blocks that are made of a complete run on a matrix of a signature are valid, without limits, and of the signature;
-- and what kernels show of torsion.
--     ExactBlockIsValid      where rows of the signature times a matrix m are the syzygies, for m
--     OutsideBlockIsValid    where a reduction by the basis leaves more than zeros of a row, for this row
--     TorsionOrColumn        a row is torsion modulo others, or a column separates it from them
--     KernelIsTorsion        what takes the generators of a right kernel to zeros is torsion
--     SyzygyShowsTorsion     of the rows that generate a left kernel of z above a matrix, one shows that z is torsion
use Rattle.std.specs.Prelude.{◌≡◌, ◌≢◌, ◌⊎◌, ℕ, List, ◌∷◌, length}
use Rattle.std.specs.List.{All, AllByRecursion}
use Rattle.std.specs.declared.result.Result.TheVariants.{Ok}
use Rattle.ore_algebra.specs.Limits.{program}
use Rattle.ore_rational.specs.Field.{rationals}
use Rattle.ore_monomial.specs.Signature.{Signature}
use Rattle.ore_ring.specs.Belongs.{Belongs}
use Rattle.ore_ring.specs.Ordered.{Ordered}
use Rattle.ore_rows.specs.Arithmetic.{within}
use Rattle.ore_rows.specs.ReduceRows.{reduce_row}
use Rattle.ore_rows.specs.Rows.{Row, RowOf, AreLong, zero_row, combine, transpose_adjoint, IsExact, IsTorsion}
use Rattle.ore_rows.specs.Stored.{OperatorMatrix, sums_of, rows_of}
use Rattle.ore_rows.specs.StoredBasis.{monics}
use Rattle.ore_laws.specs.Columns.{Separates, HasNonzeroFirst}
use Rattle.ore_division.specs.StoredWork.{work_of}
use Rattle.ore_division.specs.declared.division.Reduced.{Reduced}
use Rattle.ore_parts.specs.OfSignature.{IsExactOf, IsOutsideOf}
use Rattle.ore_parts.specs.declared.block.ExactBlock.{ExactBlock}
use Rattle.ore_parts.specs.declared.block.OutsideBlock.{OutsideBlock}
use Rattle.ore_blocks.specs.CheckBlock.{row_matrix_of}
use Rattle.ore_blocks.specs.Valid.{IsValidExactFor, IsValidOutsideFor}
use Rattle.ore_groebner.specs.BlockLaws.{AreInsideRows}
use Rattle.ore_groebner.specs.declared.outcome.Finished.{Finished}
use Rattle.ore_syzygy.specs.RunBlock.{HasRun, IsExactBlockOfRun, IsOutsideBlockOfRun}

module _ (s : Signature) where
  -- m has a column for each row of the matrix of the run, and `inside` a row for each syzygy and a column for each row of m
  abbrev pub ExactBlockIsValid : Type 0
  ExactBlockIsValid = (f : Finished) (r : HasRun s f) (m inside : OperatorMatrix) (b : ExactBlock)
      → AreInsideRows s r.matrix.cols (rows_of r.matrix) (rows_of m) (rows_of inside) (rows_of f.syzygies) → inside.cols ≡ length m.rows → All (All (Belongs s)) inside.rows
      → IsExactBlockOfRun s f inside b → IsValidExactFor s (row_matrix_of r.matrix) (row_matrix_of m) b × IsExactOf s b

  -- the row has an entry for each column of the matrix of the run, and its cofactor row begins as zeros
  abbrev pub OutsideBlockIsValid : Type 0
  OutsideBlockIsValid = (f : Finished) (r : HasRun s f) (row : List Ordered) (left : Reduced) (b : OutsideBlock) → length row ≡ r.matrix.cols → All (Belongs s) row
      → reduce_row rationals s.order (within program s) (length r.matrix.rows) (monics f.basis) (sums_of row) ≡ Ok (work_of left) → sums_of left.row ≢ zero_row rationals r.matrix.cols
      → IsOutsideBlockOfRun s f left.steps left.row b → IsValidOutsideFor s (row_matrix_of r.matrix) (sums_of row) b × IsOutsideOf s b

  -- ---- torsion

  -- for rows a and a row z of n entries: some operator that isn't zero takes z into the row module of a, with its cofactors,
  -- or a column separates z from a
  abbrev pub TorsionOrColumn : Type 0
  TorsionOrColumn = (n : ℕ) (a : List (Row rationals)) (z : Row rationals) → AreLong rationals n a → AllByRecursion (RowOf rationals s) a → length z ≡ n → RowOf rationals s z
      → IsTorsion rationals s n a z ⊎ ((v : Row rationals) × Separates rationals s n a z v)

  -- where the columns of q, m of them, generate the columns that r takes to zeros, a row z that takes q to zeros is torsion
  -- modulo r
  abbrev pub KernelIsTorsion : Type 0
  KernelIsTorsion = (n m : ℕ) (r q : List (Row rationals)) (z : Row rationals) → AreLong rationals n r → AllByRecursion (RowOf rationals s) r → AreLong rationals m q → length q ≡ n
      → IsExact rationals s (length r) (transpose_adjoint rationals s n r) (transpose_adjoint rationals s m q) → length z ≡ n → RowOf rationals s z
      → combine rationals s m z q ≡ zero_row rationals m → IsTorsion rationals s n r z

  -- where the rows of l generate the rows that take z above r to zeros, and z is torsion modulo r, a row of l has a first
  -- entry that isn't zero
  abbrev pub SyzygyShowsTorsion : Type 0
  SyzygyShowsTorsion = (n : ℕ) (r l : List (Row rationals)) (z : Row rationals) → length z ≡ n → IsTorsion rationals s n r z → IsExact rationals s n (z ∷ r) l → HasNonzeroFirst rationals l
