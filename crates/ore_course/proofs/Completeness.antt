-- Where no report is honest, a call that follows a course answers.
--     never_halted     a live chooser: only want of memory is left
--     always_answered  an answer, or want of memory
use Rattle.std.proofs.Common.{◌≡◌, ◌⊎◌, ℕ, ◌≤◌, false, List, [], refl, inl, inr}
use Rattle.std.specs.declared.result.Result.{Result}
use Rattle.std.specs.declared.result.Result.TheVariants.{Ok, Err}
use Rattle.std.specs.Prelude.{IfOk, IfErr}
use Rattle.ore_course.specs.Choices.{Runner, treatment_count_in}
use Rattle.ore_course.specs.Course.{Course, Done}
use Rattle.ore_course.specs.Leading.{Rule}
use Rattle.ore_course.specs.Report.{HasNoReport}
use Rattle.ore_course.specs.Following.{Halt, report_of, Follows, IsHaltedIn, Passed, Spent, NoLawful, Memory}
use Rattle.ore_course.proofs.Calls.{reported}
use Rattle.ore_course.proofs.Basics.{true_false}

module _ {S C : Type 0} (R : Runner S C) (rule : Rule S C) {X : Type 0} (course : Course S X) (given : List (List C)) (budget : ℕ) (kept : List (List C)) where
  pub never_halted : (halt : Halt C) → HasNoReport R rule budget course → treatment_count_in R.is_treatment given ≤ budget → IsHaltedIn R rule course [] given budget false kept halt → halt ≡ Memory
  unfolding IsHaltedIn
  never_halted (Passed c place) none within_budget h = let r = reported R rule course given budget false kept (Passed c place) h tt within_budget in absurd (none (report_of given budget (Passed c place)) r.0 r.1)
  never_halted Spent none within_budget h = let r = reported R rule course given budget false kept Spent h tt within_budget in absurd (none (report_of given budget Spent) r.0 r.1)
  never_halted NoLawful none within_budget (added, e, left, replaying) = absurd (true_false false replaying refl)
  never_halted Memory none within_budget h = refl

  pub always_answered : (result : Result X (Halt C)) → HasNoReport R rule budget course → treatment_count_in R.is_treatment given ≤ budget
      → IfOk result (λ x. Follows R rule course [] given (Done x)) → IfErr result (IsHaltedIn R rule course [] given budget false kept)
      → ((x : X) × (result ≡ Ok x) × Follows R rule course [] given (Done x)) ⊎ (result ≡ Err Memory)
  always_answered (Ok x) none within_budget answered halted = inl (x, refl, answered)
  always_answered (Err halt) none within_budget answered halted = inr (rw (never_halted halt none within_budget halted) refl)
