-- What a check answers tells whether the identities of a certificate are formed.
--     formed_gives     they are formed, or stop, as the answer says
use Rattle.std.proofs.Common.{ℕ, refl, sym, subst}
use Rattle.std.specs.declared.result.Result.TheVariants.{Ok, Err}
use Rattle.ore_algebra.specs.Limits.{Cause}
use Rattle.ore_algebra.specs.Limits as cause
use Rattle.ore_monomial.specs.Gives.{Gives}
use Rattle.ore_cert.specs.declared.certificate.Certificate.{Certificate}
use Rattle.ore_blocks.specs.declared.place.Place.{Place}
use Rattle.ore_blocks.specs.Conditions.{Checked, Trouble, Fails, Stops}
use Rattle.ore_check.specs.declared.answer.Checked.{Checked as Answer}
use Rattle.ore_check.specs.declared.answer.Checked.TheVariants as answer
use Rattle.ore_check.specs.Check.{Answers, answer_at, answer_of}
use Rattle.ore_check.specs.InnerContracts.{answer_stop}
use Rattle.ore_check.specs.Plans.{formed_as}

module _ (c : Certificate) where
  at_trouble : (line : ℕ) (t : Trouble) → Gives (λ (u : Unit {0}). c) (answer_stop (answer_at line t)) (elim t [ Fails why ↦ Ok c | Stops cause ↦ Err cause ])
  at_trouble line (Fails why) = refl
  at_trouble line (Stops cause.Overflow) = refl
  at_trouble line (Stops cause.Degree) = refl

  by_answer : (line : Place → ℕ) (checked : Checked (Unit {0})) → Gives (λ (u : Unit {0}). c) (answer_stop (answer_of line checked)) (formed_as c checked)
  unfolding formed_as
  by_answer line (Ok x) = refl
  by_answer line (Err failing) = at_trouble (line failing.place) failing.trouble

  pub formed_gives : (line : Place → ℕ) (given : Answer) (checked : Checked (Unit {0})) → Answers line given checked → Gives (λ (u : Unit {0}). c) (answer_stop given) (formed_as c checked)
  formed_gives line answer.Valid checked e = subst (λ a. Gives (λ (u : Unit {0}). c) (answer_stop a) (formed_as c checked)) (sym e) (by_answer line checked)
  formed_gives line (answer.Invalid n why) checked e = subst (λ a. Gives (λ (u : Unit {0}). c) (answer_stop a) (formed_as c checked)) (sym e) (by_answer line checked)
  formed_gives line (answer.Overflow n) checked e = subst (λ a. Gives (λ (u : Unit {0}). c) (answer_stop a) (formed_as c checked)) (sym e) (by_answer line checked)
  formed_gives line (answer.Degree n) checked e = subst (λ a. Gives (λ (u : Unit {0}). c) (answer_stop a) (formed_as c checked)) (sym e) (by_answer line checked)
  formed_gives line answer.Memory checked e = tt
