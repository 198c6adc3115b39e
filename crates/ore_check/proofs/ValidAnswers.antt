-- The answer where no place fails.
--     not_invalid        it isn't that a place fails
--     valid_passes       the places of a valid certificate within limits
use Rattle.std.proofs.Common.{◌≡◌, ◌⊎◌, inl, inr, ℕ, ap, ◌∙◌}
use Rattle.std.specs.Prelude.{◌≢◌}
use Rattle.std.specs.declared.result.Result.TheVariants.{Ok}
use Rattle.ore_algebra.specs.Limits.{Limits, unlimited}
use Rattle.ore_algebra.specs.Limits as cause
use Rattle.ore_rational.specs.Field.{rationals}
use Rattle.ore_monomial.specs.Signature.{Signature}
use Rattle.ore_rows.specs.Rows.{AreLong}
use Rattle.ore_cert.specs.declared.certificate.Certificate.{Certificate}
use Rattle.ore_cert.specs.CertificateOf.{IsCertificateOf}
use Rattle.ore_blocks.specs.declared.place.Place.{Place}
use Rattle.ore_blocks.specs.declared.reason.Reason.{Reason}
use Rattle.ore_blocks.specs.CheckBlock.{RowMatrix}
use Rattle.ore_blocks.specs.Conditions.{Checked}
use Rattle.ore_blocks.specs.WithinLimits.{IsStopped}
use Rattle.ore_blocks.proofs.CheckedAtMost.{passes_or_stops}
use Rattle.ore_check.specs.declared.answer.Checked.{Checked as Answer}
use Rattle.ore_check.specs.declared.answer.Checked.TheVariants as answer
use Rattle.ore_check.specs.Check.{Answers, answer_of, check, IsNoReport}
use Rattle.ore_check.specs.Valid.{IsValid}
use Rattle.ore_check.proofs.KindsAtMost.{check_most}
use Rattle.ore_check.proofs.ValidKinds.{check_valid}

pub not_invalid : (line : Place → ℕ) (checked : Checked (Unit {0})) → (checked ≡ Ok tt) ⊎ IsStopped checked → (given : Answer) → Answers line given checked → (n : ℕ) (why : Reason) → given ≢ answer.Invalid n why
not_invalid line checked h answer.Valid a n why e = absurd cc
not_invalid line checked h answer.Memory a n why e = absurd cc
not_invalid line checked h (answer.Overflow m) a n why e = absurd cc
not_invalid line checked h (answer.Degree m) a n why e = absurd cc
not_invalid line checked (inl passed) (answer.Invalid m w) a n why e = let apart = a ∙ ap (answer_of line) passed in absurd cc
not_invalid line checked (inr (place, cause.Overflow, stopped)) (answer.Invalid m w) a n why e = let apart = a ∙ ap (answer_of line) stopped in absurd cc
not_invalid line checked (inr (place, cause.Degree, stopped)) (answer.Invalid m w) a n why e = let apart = a ∙ ap (answer_of line) stopped in absurd cc

pub valid_passes : (l : Limits) (s : Signature) (r : RowMatrix) (c : Certificate) → AreLong rationals r.cols r.rows → IsCertificateOf s c → IsValid s r c
    → (claims : IsNoReport c) → (check l s r c claims ≡ Ok tt) ⊎ IsStopped (check l s r c claims)
valid_passes l s r c long of valid claims = passes_or_stops (check l s r c claims) (check unlimited s r c claims) tt (check_most l s r c claims) ((check_valid s r c long of claims).1 valid)
