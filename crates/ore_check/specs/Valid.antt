-- Valid certificates of a matrix r: their sizes and identities, over numbers of any size, and valid blocks.
--     AreValidLinks                          each link of a resolution has a valid block, for the matrix before it
--     IsValid                                all that is asked of a certificate, kind by kind
-- What a valid certificate says of r stands in `Meaning.antt`.
use Rattle.std.specs.Prelude.{◌≡◌, ◌≢◌, ◌<◌, List, [], ◌∷◌, length}
use Rattle.ore_algebra.specs.Free.{empty_sum}
use Rattle.ore_rational.specs.Field.{rationals}
use Rattle.ore_monomial.specs.Monomial.{plain_cmp}
use Rattle.ore_monomial.specs.Signature.{Signature}
use Rattle.ore_rows.specs.Rows.{zero_row, unit_row, row_scale, combine}
use Rattle.ore_rows.specs.Stored.{sums_of}
use Rattle.ore_parts.specs.declared.block.Link.{Link}
use Rattle.ore_cert.specs.declared.certificate.Side.TheVariants.{Left, Right}
use Rattle.ore_cert.specs.declared.certificate.Certificate.{Certificate}
use Rattle.ore_cert.specs.declared.certificate.Certificate.TheVariants.{Controllable, AutonomousElement, LeftInverse, RightInverse, NoLeftInverse, NoRightInverse, Kernel, Resolution, ExtZero, ExtNonzero, Halted}
use Rattle.ore_blocks.specs.CheckBlock.{RowMatrix, row_matrix_of}
use Rattle.ore_blocks.specs.Valid.{IsValidExactFor, IsValidOutsideFor}
use Rattle.ore_check.specs.Meaning.{IsLeftInverse, IsRightInverse, transposed_adjoint}

module _ (s : Signature) where
  -- the links that stand behind r, whose matrix is before it, have valid blocks; the last two matrices meet P
  abbrev pub AreValidLinks : RowMatrix → RowMatrix → List Link → (RowMatrix → RowMatrix → Type 0) → Type 0
  AreValidLinks before r [] P = P before r
  AreValidLinks before r (k ∷ ks) P = (k.l.cols ≡ length r.rows) × IsValidExactFor s r (row_matrix_of k.l) k.block × AreValidLinks r (row_matrix_of k.l) ks P

  -- kind by kind, of the matrix r
  abbrev pub IsValid : RowMatrix → Certificate → Type 0
  IsValid r (Controllable q block) = (length q.rows ≡ r.cols) × IsValidExactFor s (row_matrix_of q) r block
  IsValid r (AutonomousElement element operator cofactor block) = (length element ≡ r.cols) × (operator.sum ≢ empty_sum rationals plain_cmp) × (length cofactor ≡ length r.rows)
      × (row_scale rationals s operator.sum (sums_of element) ≡ combine rationals s r.cols (sums_of cofactor) r.rows) × IsValidOutsideFor s r (sums_of element) block
  IsValid r (LeftInverse m) = IsLeftInverse s r (row_matrix_of m)
  IsValid r (RightInverse m) = IsRightInverse s r (row_matrix_of m)
  IsValid r (NoLeftInverse unit block) = (unit < r.cols) × IsValidOutsideFor s r (unit_row rationals r.cols unit) block
  IsValid r (NoRightInverse unit block) = (unit < length r.rows) × IsValidOutsideFor s (transposed_adjoint s r) (unit_row rationals (length r.rows) unit) block
  IsValid r (Kernel Left generators block) = (generators.cols ≡ length r.rows) × IsValidExactFor s r (row_matrix_of generators) block
  IsValid r (Kernel Right generators block) = (length generators.rows ≡ r.cols) × IsValidExactFor s (transposed_adjoint s r) (transposed_adjoint s (row_matrix_of generators)) block
  IsValid r (Resolution links) = AreValidLinks r r links (λ before last. Unit {0})
  IsValid r (ExtZero links block) = AreValidLinks r r links (λ before last. IsValidExactFor s (transposed_adjoint s last) (transposed_adjoint s before) block)
  IsValid r (ExtNonzero links element block) = AreValidLinks r r links (λ before last. (length element ≡ length before.rows)
      × (combine rationals s (length last.rows) (sums_of element) (transposed_adjoint s last).rows ≡ zero_row rationals (length last.rows))
      × IsValidOutsideFor s (transposed_adjoint s before) (sums_of element) block)
  -- a report claims nothing of a matrix, so none is valid
  IsValid r (Halted report) = ⊥
