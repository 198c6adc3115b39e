-- A course without runs: its one report; and what a replay says of honesty.
--     only_report       an honest report of forced work alone lists no run, and says why the work stops
--     its_report        where the work stops, that report is honest
--     valid_exactly     where following the course halts, nothing fails by the replay exactly where the report is honest
--     answered_exactly  so it is where it answers
use Rattle.std.proofs.Common.{◌≡◌, ◌≢◌, ◌↔◌, ℕ, true, List, [], ◌∷◌, refl, sym, ap, ◌∙◌}
use Rattle.std.specs.declared.option.Option.TheVariants.{None, Some}
use Rattle.std.specs.declared.result.Result.{Result}
use Rattle.std.specs.declared.result.Result.TheVariants.{Ok, Err}
use Rattle.ore_algebra.specs.Limits.{Cause}
use Rattle.ore_course.specs.Choices.{IsClosed, Runner}
use Rattle.ore_course.specs.Course.{Course, forced, Done, Stops}
use Rattle.ore_course.specs.Leading.{Rule, LeadsTo, IsIn}
use Rattle.ore_course.specs.Report.{Reported, StopLine, Report, IsHonestAt, IsHonest, ByStop, AtForced, AtChoice, AtBudget}
use Rattle.ore_course.specs.Following.{Halt, Follows, IsHaltedIn, Memory}
use Rattle.ore_course.specs.Replaying.{kept_of, AreFronts, replayed}
use Rattle.ore_course.proofs.Honesty.{honest_exactly}
use Rattle.ore_course.proofs.Replay.{replay_answered, replay_halted}

same_stops : {S X : Type 0} (c d : Cause) → ◌≡◌ {A = Course S X} (Stops c) (Stops d) → c ≡ d
same_stops c d e = cc

not_done : {S X : Type 0} {x : X} {c : Cause} → ◌≡◌ {A = Course S X} (Done x) (Stops c) → ⊥
not_done e = cc

module _ {S C : Type 0} (R : Runner S C) {X : Type 0} where
  forced_leads : (r : Result X Cause) (runs : List (List C)) (c : Cause) → LeadsTo R (forced r) runs (Stops c) → (r ≡ Err c) × (runs ≡ [])
  unfolding LeadsTo forced
  forced_leads (Ok x) [] c h = absurd (not_done h)
  forced_leads (Ok x) (cs ∷ runs) c h = absurd h
  forced_leads (Err d) [] c h = (ap Err (same_stops d c h), refl)
  forced_leads (Err d) (cs ∷ runs) c h = absurd h

  forced_in : (r : Result X Cause) (runs : List (List C)) (st : S) → IsIn R (forced {X = X} r) runs st → ⊥
  unfolding IsIn forced
  forced_in (Ok x) runs st h = h
  forced_in (Err c) runs st h = h

  only : (r : Result X Cause) (runs : List (List C)) (cause : Reported) (stop : StopLine C) → IsHonestAt R (forced {X = X} r) runs cause stop
      → (c : Cause) × (r ≡ Err c) × (cause ≡ ByStop c) × (runs ≡ []) × (stop ≡ AtForced)
  unfolding IsHonestAt
  only r runs cause AtForced (c, e, h) = let k = forced_leads r runs c h in (c, k.0, e, k.1, refl)
  only r runs cause (AtChoice choice) (c, e, st, h, s) = absurd (forced_in r runs st h)
  only r runs cause AtBudget (e, st, h, s) = absurd (forced_in r runs st h)

  pub only_report : (r : Result X Cause) (report : Report C) → IsHonest R (forced {X = X} r) report → (c : Cause) × (r ≡ Err c) × (report ≡ record { cause = ByStop c; runs = []; stop = AtForced })
  only_report r report h = let k = only r report.runs report.cause report.stop h in (k.0, k.1, λ i. record { cause = k.2 i; runs = k.3 i; stop = k.4 i })

  pub its_report : (r : Result X Cause) (c : Cause) → r ≡ Err c → IsHonest R (forced {X = X} r) (record { cause = ByStop c; runs = []; stop = AtForced })
  unfolding IsHonestAt LeadsTo forced
  its_report r c e = (c, refl, ap forced e)

  module _ (closed : IsClosed R) (rule : Rule S C) (course : Course S X) (report : Report C) (given : List (List C)) (kept : AreFronts (kept_of report) given) where
    pub valid_exactly : (budget : ℕ) (halt : Halt C) → IsHaltedIn R rule course [] given budget true (kept_of report) halt → halt ≢ Memory → (replayed R report given (Some halt) ≡ None) ↔ IsHonest R course report
    valid_exactly budget halt h memory =
        let same = replay_halted R closed rule course report given budget halt h kept memory in let exactly = honest_exactly R course report in
        ((λ e. exactly.0 (same ∙ e)), λ honest. sym same ∙ exactly.1 honest)

    pub answered_exactly : (x : X) → Follows R rule course [] given (Done x) → (replayed R report given None ≡ None) ↔ IsHonest R course report
    answered_exactly x h =
        let same = replay_answered R closed rule course report given x h kept in let exactly = honest_exactly R course report in
        ((λ e. exactly.0 (same ∙ e)), λ honest. sym same ∙ exactly.1 honest)
