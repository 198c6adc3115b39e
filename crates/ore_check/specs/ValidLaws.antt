-- What the check of a certificate says, for a signature and its order: exactly whether the certificate is valid where
-- there are no limits, and within limits the same, or that an operation stops.
--     CheckIsValid           without limits the places of a certificate are right where it is valid
--     CheckAtMost            within limits they give what they give without, or stop
--     ValidPasses            within limits the places of a valid certificate are right, or stop
--     CheckShowsValid        within whatever limits, a certificate whose places are right is valid
--     ValidIsTrue            a valid certificate is true
--     ValidIsNotInvalid      no answer to a valid certificate is that a place fails
use Rattle.std.specs.Prelude.{◌≡◌, ◌≢◌, ◌⊎◌, ◌↔◌, ℕ}
use Rattle.std.specs.declared.result.Result.TheVariants.{Ok}
use Rattle.ore_algebra.specs.Limits.{Limits, program, unlimited}
use Rattle.ore_rational.specs.Field.{rationals}
use Rattle.ore_monomial.specs.Signature.{Signature}
use Rattle.ore_rows.specs.Rows.{AreLong}
use Rattle.ore_cert.specs.declared.certificate.Certificate.{Certificate}
use Rattle.ore_cert.specs.CertificateOf.{IsCertificateOf}
use Rattle.ore_blocks.specs.CheckBlock.{RowMatrix}
use Rattle.ore_blocks.specs.WithinLimits.{IsStopped, IsCheckedAtMost}
use Rattle.ore_blocks.specs.declared.reason.Reason.{Reason}
use Rattle.ore_check.specs.declared.answer.Checked.{Checked as Answer}
use Rattle.ore_check.specs.declared.answer.Checked.TheVariants as answer
use Rattle.ore_check.specs.Check.{Answers, check, IsNoReport}
use Rattle.ore_check.specs.Layout.{line_in}
use Rattle.ore_check.specs.Meaning.{Means}
use Rattle.ore_check.specs.Valid.{IsValid}

module _ (s : Signature) where
  -- without limits, of a certificate of the signature, but a report
  abbrev pub CheckIsValid : Type 0
  CheckIsValid = (r : RowMatrix) (c : Certificate) → AreLong rationals r.cols r.rows → IsCertificateOf s c → (claims : IsNoReport c) → (check unlimited s r c claims ≡ Ok tt) ↔ IsValid s r c

  -- of any certificate and matrix: no condition fails within limits where none fails without
  abbrev pub CheckAtMost : Type 0
  CheckAtMost = (l : Limits) (r : RowMatrix) (c : Certificate) (claims : IsNoReport c) → IsCheckedAtMost (check l s r c claims) (check unlimited s r c claims)

  -- of a valid certificate of the signature no place fails a condition, whatever the limits
  abbrev pub ValidPasses : Type 0
  ValidPasses = (l : Limits) (r : RowMatrix) (c : Certificate) → AreLong rationals r.cols r.rows → IsCertificateOf s c → IsValid s r c
      → (claims : IsNoReport c) → (check l s r c claims ≡ Ok tt) ⊎ IsStopped (check l s r c claims)

  -- of a certificate of the signature, within whatever limits it is checked
  abbrev pub CheckShowsValid : Type 0
  CheckShowsValid = (l : Limits) (r : RowMatrix) (c : Certificate) → AreLong rationals r.cols r.rows → IsCertificateOf s c
      → (claims : IsNoReport c) → check l s r c claims ≡ Ok tt → IsValid s r c

  -- of a certificate of the signature
  abbrev pub ValidIsTrue : Type 0
  ValidIsTrue = (r : RowMatrix) (c : Certificate) → AreLong rationals r.cols r.rows → IsCertificateOf s c → IsValid s r c → Means s r c

  -- of a certificate of the signature: where it is valid the answer is that it is, the line of a stop, or that there was
  -- no memory
  abbrev pub ValidIsNotInvalid : Type 0
  ValidIsNotInvalid = (r : RowMatrix) (c : Certificate) → AreLong rationals r.cols r.rows → IsCertificateOf s c → IsValid s r c
      → (claims : IsNoReport c) (given : Answer) → Answers (line_in c) given (check program s r c claims) → (line : ℕ) (why : Reason) → given ≢ answer.Invalid line why
