-- Honest, and honest by the rule that every lawful choice may come, are one.
--     any_allowed        choices that lead somewhere are lawful
--     any_honest         the law
use Rattle.std.proofs.Common.{◌≡◌, ◌↔◌, Bool, true, false, not, List, [], ◌∷◌, refl, subst}
use Rattle.std.specs.declared.result.Result.{Result}
use Rattle.std.specs.declared.result.Result.TheVariants.{Ok, Err}
use Rattle.ore_algebra.specs.Limits.{Cause}
use Rattle.ore_course.specs.Choices.{Refusal, Runner, Stopped}
use Rattle.ore_course.specs.Course.{Course, Done, Stops, Runs}
use Rattle.ore_course.specs.Leading.{shows_lawful, any_rule, run, AreAllowed, LeadsTo, IsIn, AreAllowedIn}
use Rattle.ore_course.specs.Report.{Reported, StopLine, Report, IsHonestAt, IsHonest, IsStopAllowed, IsHonestBy, AtForced, AtChoice, AtBudget}
use Rattle.ore_course.proofs.Basics.{one_ok}
use Rattle.ore_algebra.proofs.ResultLaws.{no_ok}
use Rattle.ore_course.proofs.Calls.{in_one}

-- what isn't refused as unlawful is lawful
lawful_next : {S : Type 0} (r : Result S Refusal) (next : S) → r ≡ Ok next → shows_lawful r ≡ true
unfolding shows_lawful
lawful_next r next e = rw e refl

lawful_stop : {S : Type 0} (r : Result S Refusal) (c : Cause) → r ≡ Err (Stopped c) → shows_lawful r ≡ true
unfolding shows_lawful
lawful_stop r c e = rw e refl

module _ {S C : Type 0} (R : Runner S C) where
  any_allowed : (st : S) (cs : List C) (last : S) → run R st cs ≡ Ok last → AreAllowed R (any_rule R) st cs
  unfolding run AreAllowed
  any_allowed st [] last e = tt
  any_allowed st (c ∷ cs) last e = by (R.step st c) refl e (λ next. any_allowed next cs last)
    where
      by : (r : Result S Refusal) → R.step st c ≡ r → ◌≡◌ {A = Result S Refusal} (elim r [ Ok next ↦ run R next cs | Err refusal ↦ Err refusal ]) (Ok last)
          → ((next : S) → run R next cs ≡ Ok last → AreAllowed R (any_rule R) next cs) → (shows_lawful (R.step st c) ≡ true) × ((next : S) → R.step st c ≡ Ok next → AreAllowed R (any_rule R) next cs)
      by (Ok next) s h more = (lawful_next (R.step st c) next s, λ other f. subst (λ x. AreAllowed R (any_rule R) x cs) (one_ok (R.step st c) next other s f) (more next h))
      by (Err refusal) s h more = absurd (no_ok h)

  module _ {X : Type 0} where
    leads_allowed : (course : Course S X) (runs : List (List C)) (rest : Course S X) → LeadsTo R course runs rest → AreAllowedIn R (any_rule R) course runs
    unfolding LeadsTo AreAllowedIn
    leads_allowed (Done x) [] rest h = tt
    leads_allowed (Stops c) [] rest h = tt
    leads_allowed (Runs first next) [] rest h = tt
    leads_allowed (Done x) (cs ∷ runs) rest h = absurd h
    leads_allowed (Stops c) (cs ∷ runs) rest h = absurd h
    leads_allowed (Runs first next) (cs ∷ runs) rest (last, led, complete, more) =
        let all = leads_allowed (next last) runs rest more in
        (any_allowed first cs last led, λ other f. subst (λ x. AreAllowedIn R (any_rule R) (next x) runs) (one_ok (run R first cs) last other led f) all)

    nothing_allowed : (course : Course S X) → AreAllowedIn R (any_rule R) course []
    unfolding AreAllowedIn
    nothing_allowed (Done x) = tt
    nothing_allowed (Stops c) = tt
    nothing_allowed (Runs first next) = tt

    in_allowed : (course : Course S X) (runs : List (List C)) (st : S) → IsIn R course runs st → AreAllowedIn R (any_rule R) course runs
    unfolding IsIn AreAllowedIn
    in_allowed (Done x) runs st h = absurd h
    in_allowed (Stops c) runs st h = absurd h
    in_allowed (Runs first next) [] st h = absurd h
    in_allowed (Runs first next) (cs ∷ []) st h = (any_allowed first cs st h, λ other f. nothing_allowed (next other))
    in_allowed (Runs first next) (cs ∷ ds ∷ runs) st (last, led, complete, more) =
        let all = in_allowed (next last) (ds ∷ runs) st more in
        (any_allowed first cs last led, λ other f. subst (λ x. AreAllowedIn R (any_rule R) (next x) (ds ∷ runs)) (one_ok (run R first cs) last other led f) all)

    any_at : (course : Course S X) (runs : List (List C)) (cause : Reported) (stop : StopLine C) → IsHonestAt R course runs cause stop → AreAllowedIn R (any_rule R) course runs × IsStopAllowed R (any_rule R) course runs stop
    unfolding IsHonestAt IsStopAllowed
    any_at course runs cause AtForced (c, e, h) = (leads_allowed course runs (Stops c) h, tt)
    any_at course runs cause (AtChoice choice) (c, e, st, h, s) =
        (in_allowed course runs st h, λ other k. lawful_stop (R.step other choice) c (subst (λ x. R.step x choice ≡ Err (Stopped c)) (in_one R course runs st other h k) s))
    any_at course runs cause AtBudget (e, st, h, s) = (in_allowed course runs st h, λ other k. not_complete (R.is_complete other) (subst (λ x. R.is_complete x ≡ false) (in_one R course runs st other h k) s))
      where
        not_complete : (b : Bool) → b ≡ false → not b ≡ true
        not_complete b e = rw e refl

    pub any_honest : (course : Course S X) (report : Report C) → IsHonest R course report ↔ IsHonestBy R (any_rule R) course report
    any_honest course report = (
      (λ h. let a = any_at course report.runs report.cause report.stop h in record { honest = h; choices = a.0; stop = a.1 }),
      λ h. h.honest,
    )
