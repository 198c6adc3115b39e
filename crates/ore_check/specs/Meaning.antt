-- What a certificate says of a matrix r, over numbers of any size. It speaks of rows alone: no basis, pair or syzygy. A
-- report says that its choices lead to the stop that it names (Reports).
-- (Torsion and parametrisations of linear systems: Chyzak, Quadrat and Robertz 2005; extension modules: Robertz 2014.)
--     RowsOf                      some rows are of a signature
--     HasInverseSize              a matrix has the size of an inverse
--     IsLeftInverse, IsRightInverse       it has, and times r, or r times it, it is the identity
--     HasLeftInverse, HasRightInverse     some matrix of the signature is such an inverse
--     transposed_adjoint          the transposed adjoint
--     IsExactFor                  the rows that take a matrix to zeros are just the combinations of some rows, each with an
--                                 entry for each row of the matrix
--     IsResolution                each matrix generates what takes the one before it to zeros
--     Means                       what a certificate says
use Rattle.std.specs.Prelude.{◌≡◌, ◌≢◌, List, [], ◌∷◌, length}
use Rattle.std.specs.List.{AllByRecursion}
use Rattle.ore_algebra.specs.Free.{empty_sum}
use Rattle.ore_rational.specs.Field.{rationals}
use Rattle.ore_monomial.specs.Monomial.{plain_cmp}
use Rattle.ore_monomial.specs.Signature.{Signature}
use Rattle.ore_rows.specs.Rows.{Row, RowOf, AreLong, zero_row, row_scale, combine, identity_rows, matrix_times, transpose_adjoint, InRowModule, IsExact, IsTorsionFree}
use Rattle.ore_rows.specs.Stored.{sums_of, rows_of}
use Rattle.ore_parts.specs.declared.block.Link.{Link}
use Rattle.ore_cert.specs.EachKind.{IsLength}
use Rattle.ore_cert.specs.declared.certificate.Side.TheVariants.{Left, Right}
use Rattle.ore_cert.specs.declared.certificate.Certificate.{Certificate}
use Rattle.ore_cert.specs.declared.certificate.Certificate.TheVariants.{Controllable, AutonomousElement, LeftInverse, RightInverse, NoLeftInverse, NoRightInverse, Kernel, Resolution, ExtZero, ExtNonzero, Halted}
use Rattle.ore_blocks.specs.CheckBlock.{RowMatrix, row_matrix_of}
use Rattle.ore_check.specs.Reports.{IsHonestReport}

-- m has a row for each column of r and a column for each row
pub record HasInverseSize (r m : RowMatrix) : Type 0 where
  pub rows : length m.rows ≡ r.cols
  pub columns : m.cols ≡ length r.rows
  pub long : AreLong rationals m.cols m.rows

module _ (s : Signature) where
  -- each row is of the signature
  abbrev pub RowsOf : List (Row rationals) → Type 0
  RowsOf rows = AllByRecursion (RowOf rationals s) rows

  -- m has the size of an inverse, and m r is the identity
  abbrev pub IsLeftInverse : RowMatrix → RowMatrix → Type 0
  IsLeftInverse r m = HasInverseSize r m × (matrix_times rationals s r.cols m.rows r.rows ≡ identity_rows rationals r.cols)

  -- m has the size of an inverse, and r m is the identity
  abbrev pub IsRightInverse : RowMatrix → RowMatrix → Type 0
  IsRightInverse r m = HasInverseSize r m × (matrix_times rationals s m.cols r.rows m.rows ≡ identity_rows rationals (length r.rows))

  -- some m of the signature is such an inverse
  abbrev pub HasLeftInverse : RowMatrix → Type 0
  HasLeftInverse r = (m : RowMatrix) × RowsOf m.rows × IsLeftInverse r m

  -- some m of the signature is such an inverse
  abbrev pub HasRightInverse : RowMatrix → Type 0
  HasRightInverse r = (m : RowMatrix) × RowsOf m.rows × IsRightInverse r m

  -- the transpose with each entry replaced by its adjoint: a row for each column, and a column for each row
  abbrev pub transposed_adjoint : RowMatrix → RowMatrix
  transposed_adjoint m = record { cols = length m.rows; rows = transpose_adjoint rationals s m.cols m.rows }

  -- the rows that take a to zeros are just the combinations of these rows, which have an entry for each row of a
  abbrev pub IsExactFor : RowMatrix → List (Row rationals) → Type 0
  IsExactFor a rows = IsExact rationals s a.cols a.rows rows

  -- the links resolve r; the last two matrices are these
  abbrev pub IsResolution : RowMatrix → RowMatrix → List Link → (RowMatrix → RowMatrix → Type 0) → Type 0
  IsResolution before r [] P = P before r
  IsResolution before r (k ∷ ks) P = IsExactFor r (rows_of k.l) × IsResolution r (row_matrix_of k.l) ks P

  -- kind by kind, of the matrix r; of the two verdicts only what is printed in brief is looked at
  abbrev pub Means : RowMatrix → Certificate → Type 0
  -- the rows of q parametrise what r describes, and so nothing is torsion
  Means r (Controllable q block) = (length q.rows ≡ r.cols) × IsExactFor (row_matrix_of q) r.rows × IsTorsionFree rationals s r.cols r.rows
  Means r (AutonomousElement element operator cofactor block) = (operator.sum ≢ empty_sum rationals plain_cmp)
      × InRowModule rationals s r.cols r.rows (row_scale rationals s operator.sum (sums_of element)) × ¬ InRowModule rationals s r.cols r.rows (sums_of element)
  Means r (LeftInverse m) = IsLeftInverse r (row_matrix_of m)
  Means r (RightInverse m) = IsRightInverse r (row_matrix_of m)
  Means r (NoLeftInverse unit block) = ¬ HasLeftInverse r
  Means r (NoRightInverse unit block) = ¬ HasRightInverse r
  Means r (Kernel Left generators block) = IsExactFor r (rows_of generators)
  Means r (Kernel Right generators block) = (length generators.rows ≡ r.cols) × IsExactFor (transposed_adjoint r) (transposed_adjoint (row_matrix_of generators)).rows
  Means r (Resolution links) = IsLength (length links) × IsResolution r r links (λ before last. Unit {0})
  Means r (ExtZero links block) = IsLength (length links) × IsResolution r r links (λ before last. IsExactFor (transposed_adjoint last) (transposed_adjoint before).rows)
  Means r (ExtNonzero links element block) = IsLength (length links) × IsResolution r r links (λ before last. (length element ≡ length before.rows)
      × (combine rationals s (length last.rows) (sums_of element) (transposed_adjoint last).rows ≡ zero_row rationals (length last.rows))
      × ¬ InRowModule rationals s (length before.rows) (transposed_adjoint before).rows (sums_of element))
  Means r (Halted report) = IsHonestReport s r report
