-- A certificate that passes the check is valid and true.
--     check_shows_valid        it is valid, within whatever limits it is checked
--     check_means              so it is true
--     claims_same              that a certificate is no report is one claim
--     at_kind                  what is judged of a kind is judged of a certificate of the kind
--     controllable_free        a true controllable certificate says that its matrix leaves no torsion
--     torsion_outside          one with a true autonomous certificate leaves some
--     one_verdict              so no matrix has both
use Rattle.std.proofs.Common.{◌≡◌, refl, sym, ◌∙◌, subst}
use Rattle.std.specs.declared.result.Result.{Result}
use Rattle.std.specs.declared.result.Result.TheVariants.{Ok}
use Rattle.ore_algebra.specs.Limits.{Limits, program, unlimited}
use Rattle.ore_rational.specs.Field.{rationals}
use Rattle.ore_monomial.specs.Signature.{Signature}
use Rattle.ore_monomial.proofs.Signatures.{lawful}
use Rattle.ore_rows.specs.Rows.{AreLong, row_scale, IsTorsion, IsTorsionFree}
use Rattle.ore_rows.specs.Stored.{sums_of}
use Rattle.ore_rows.proofs.RowLaws as Rows
use Rattle.ore_rows.proofs.RowModules.{length-module}
use Rattle.ore_rows.proofs.StoredRows.{row_of_stored}
use Rattle.ore_cert.specs.declared.certificate.Certificate.{Certificate}
use Rattle.ore_cert.specs.declared.certificate.Certificate.TheVariants.{Controllable, AutonomousElement, LeftInverse, RightInverse, NoLeftInverse, NoRightInverse, Kernel, Resolution, ExtZero, ExtNonzero, Halted}
use Rattle.ore_cert.specs.CertificateOf.{IsCertificateOf}
use Rattle.ore_blocks.specs.declared.refusal.Refusal.{Refusal}
use Rattle.ore_blocks.specs.Judging.{Judges}
use Rattle.ore_blocks.specs.CheckBlock.{RowMatrix}
use Rattle.ore_check.specs.Check.{check, IsNoReport}
use Rattle.ore_check.specs.Meaning.{Means}
use Rattle.ore_check.specs.Valid.{IsValid}
use Rattle.ore_check.specs.Laws.{IsControllable, IsAutonomous}
pub use Rattle.ore_blocks.proofs.Converted.{rows_count}
use Rattle.ore_blocks.proofs.CheckedAtMost.{value_without}
use Rattle.ore_check.proofs.KindsAtMost.{check_most}
use Rattle.ore_check.proofs.ValidKinds.{check_valid}
use Rattle.ore_check.proofs.ValidMeans.{valid_means}

module _ (l : Limits) (s : Signature) (r : RowMatrix) (long : AreLong rationals r.cols r.rows) (c : Certificate) (of : IsCertificateOf s c) (claims : IsNoReport c) where
  pub check_shows_valid : check l s r c claims ≡ Ok tt → IsValid s r c
  check_shows_valid h = (check_valid s r c long of claims).0 (value_without (check l s r c claims) (check unlimited s r c claims) tt (check_most l s r c claims) h)

  pub check_means : check l s r c claims ≡ Ok tt → Means s r c
  check_means h = valid_means s r c long of (check_shows_valid h)

-- ---- kinds

pub claims_same : (c : Certificate) (a b : IsNoReport c) → a ≡ b
claims_same (Controllable q block) a b = refl
claims_same (AutonomousElement element operator cofactor block) a b = refl
claims_same (LeftInverse m) a b = refl
claims_same (RightInverse m) a b = refl
claims_same (NoLeftInverse unit block) a b = refl
claims_same (NoRightInverse unit block) a b = refl
claims_same (Kernel side generators block) a b = refl
claims_same (Resolution links) a b = refl
claims_same (ExtZero links block) a b = refl
claims_same (ExtNonzero links element block) a b = refl
claims_same (Halted report) a b = absurd a

pub at_kind : (s : Signature) (r : RowMatrix) (c kind : Certificate) (judged : Result (Unit {0}) Refusal) → c ≡ kind → ((claims : IsNoReport kind) → Judges (λ u. u) judged (check program s r kind claims))
    → (claims : IsNoReport c) → Judges (λ u. u) judged (check program s r c claims)
at_kind s r c kind judged e h = subst (λ c. (claims : IsNoReport c) → Judges (λ u. u) judged (check program s r c claims)) (sym e) h

-- ---- verdicts

module _ (s : Signature) (r : RowMatrix) (long : AreLong rationals r.cols r.rows) where
  controllable_free : (c : Certificate) → IsControllable s c → Means s r c → IsTorsionFree rationals s r.cols r.rows
  controllable_free (Controllable q block) kind means = means.2
  controllable_free other kind means = absurd kind

  -- the element of a true autonomous certificate is torsion, and no combination of the rows
  torsion_outside : (d : Certificate) → IsCertificateOf s d → IsAutonomous s d → Means s r d → ¬ IsTorsionFree rationals s r.cols r.rows
  unfolding IsTorsionFree IsTorsion
  torsion_outside (AutonomousElement element operator cofactor block) of kind (apart, inside, outside) free =
      outside (free (sums_of element)
      (sym (Rows.length-row_scale rationals s (lawful s) operator.sum (sums_of element)) ∙ length-module rationals s (lawful s) r.cols r.rows long (row_scale rationals s operator.sum (sums_of element)) inside)
      (row_of_stored s element of.0)
      (operator.sum, of.1.variables, apart, inside))
  torsion_outside other of kind means free = absurd kind

  pub one_verdict : (c d : Certificate) → IsCertificateOf s c → IsCertificateOf s d → IsControllable s c → IsAutonomous s d → Means s r c → ¬ Means s r d
  one_verdict c d c_of d_of c_kind d_kind c_means d_means = torsion_outside d d_of d_kind d_means (controllable_free c c_kind c_means)
