-- What the first extension module of the transposed adjoint of a matrix r says of torsion modulo the rows of r.
-- (Chyzak, Quadrat and Robertz 2005; Robertz 2014.)
--     ZeroIsTorsionFree      it is zero exactly where r leaves no torsion
--     IsTorsionElement       a row that is torsion, but isn't in the row module
--     NonzeroIsTorsion       what shows that it isn't zero is just the torsion elements
--     TellsOfTorsion         a certificate of it tells rightly whether r leaves torsion
--     ValidTellsOfTorsion    each valid one does
use Rattle.std.specs.Prelude.{◌≡◌, ◌↔◌, List, [], ◌∷◌, length}
use Rattle.std.specs.List.{All}
use Rattle.ore_rational.specs.Field.{rationals}
use Rattle.ore_monomial.specs.Signature.{Signature}
use Rattle.ore_ring.specs.Belongs.{Belongs}
use Rattle.ore_ring.specs.Ordered.{Ordered}
use Rattle.ore_rows.specs.Rows.{AreLong, InRowModule, IsTorsion, IsTorsionFree}
use Rattle.ore_rows.specs.Stored.{sums_of}
use Rattle.ore_parts.specs.declared.block.ExactBlock.{ExactBlock}
use Rattle.ore_parts.specs.declared.block.OutsideBlock.{OutsideBlock}
use Rattle.ore_parts.specs.declared.block.Link.{Link}
use Rattle.ore_parts.specs.OfSignature.{MatrixOf}
use Rattle.ore_cert.specs.CertificateOf.{IsCertificateOf}
use Rattle.ore_cert.specs.declared.certificate.Certificate.{Certificate}
use Rattle.ore_cert.specs.declared.certificate.Certificate.TheVariants.{Resolution, ExtZero, ExtNonzero}
use Rattle.ore_blocks.specs.CheckBlock.{RowMatrix}
use Rattle.ore_check.specs.Meaning.{RowsOf, transposed_adjoint, Means}
use Rattle.ore_check.specs.Valid.{IsValid}
use Rattle.ore_resolution.specs.Stored.{IsExtensionOf}

module _ (s : Signature) where
  -- with one link, which has a column for each column of r: what `ext-zero` says of the transposed adjoint of r is true
  -- exactly where the link resolves the transposed adjoint and r leaves no torsion
  abbrev pub ZeroIsTorsionFree : Type 0
  ZeroIsTorsionFree = (r : RowMatrix) (k : Link) (block : ExactBlock) → AreLong rationals r.cols r.rows → RowsOf s r.rows → MatrixOf s k.l → k.l.cols ≡ r.cols
      → Means s (transposed_adjoint s r) (ExtZero (k ∷ []) block) ↔ (Means s (transposed_adjoint s r) (Resolution (k ∷ [])) × IsTorsionFree rationals s r.cols r.rows)

  -- the row is torsion modulo the rows of r, and isn't in their row module
  abbrev pub IsTorsionElement : RowMatrix → List Ordered → Type 0
  IsTorsionElement r z = (length z ≡ r.cols) × IsTorsion rationals s r.cols r.rows (sums_of z) × ¬ InRowModule rationals s r.cols r.rows (sums_of z)

  -- with one link likewise: what `ext-nonzero` says is true exactly where the link resolves the transposed adjoint and the
  -- element is a torsion element of r
  abbrev pub NonzeroIsTorsion : Type 0
  NonzeroIsTorsion = (r : RowMatrix) (k : Link) (element : List Ordered) (block : OutsideBlock) → AreLong rationals r.cols r.rows → RowsOf s r.rows → MatrixOf s k.l → k.l.cols ≡ r.cols
      → All (Belongs s) element
      → Means s (transposed_adjoint s r) (ExtNonzero (k ∷ []) element block) ↔ (Means s (transposed_adjoint s r) (Resolution (k ∷ [])) × IsTorsionElement r element)

  -- r leaves no torsion where the certificate says that the extension module is zero; where it says that it isn't, its
  -- element is a torsion element of r
  abbrev pub TellsOfTorsion : RowMatrix → Certificate → Type 0
  TellsOfTorsion r (ExtZero links block) = IsTorsionFree rationals s r.cols r.rows
  TellsOfTorsion r (ExtNonzero links element block) = IsTorsionElement r element
  TellsOfTorsion r other = ⊥

  -- a valid certificate of the first extension module of the transposed adjoint of r tells rightly
  abbrev pub ValidTellsOfTorsion : Type 0
  ValidTellsOfTorsion = (r : RowMatrix) (c : Certificate) → AreLong rationals r.cols r.rows → RowsOf s r.rows → IsCertificateOf s c → IsExtensionOf 1 c
      → IsValid s (transposed_adjoint s r) c → TellsOfTorsion r c
