-- A run by a chooser follows the course that has one run.
--     allowed_path, allowed_front, allowed_at_end    what is allowed place by place is allowed along the run; of one choice more
--     one_run_answered           a complete run answers
--     one_run_left               a run that isn't complete is left in its state
--     one_run_not_begun          where the first state can't be made, forced work stops
--     one_run_stopped            where the last choice stops, the call halts
use Rattle.std.proofs.Common.{◌≡◌, ℕ, suc, Bool, true, List, [], ◌∷◌, ◌++◌, take, slice_get, refl, sym, ap, ◌∙◌, subst, append-nil}
use Rattle.std.specs.declared.option.Option.TheVariants.{Some}
use Rattle.std.specs.declared.result.Result.{Result}
use Rattle.std.specs.declared.result.Result.TheVariants.{Ok, Err}
use Rattle.ore_algebra.specs.Limits.{Cause}
use Rattle.ore_course.specs.Choices.{Refusal, Stopped, Runner, with_choice}
use Rattle.ore_course.specs.Course.{◌>>=◌, forced, run_from, Done, Stops}
use Rattle.ore_course.specs.Leading.{Rule, run, IsCompleteState, AreAllowed, LeadsTo, IsIn, AreAllowedIn}
use Rattle.ore_course.specs.Following.{InChoice, Passed, Follows, IsLeftIn, IsStopChoice, IsHaltedIn}
use Rattle.ore_algebra.proofs.ResultLaws.{same_ok, no_ok}
use Rattle.ore_course.proofs.Leads.{run_step}

module _ {S C : Type 0} (R : Runner S C) (rule : Rule S C) where
  pub allowed_path : (st : S) (cs : List C)
      → ((k : ℕ) (c : C) (last : S) → slice_get cs k ≡ Some c → run R st (take k cs) ≡ Ok last → rule.allows last c ≡ true) → AreAllowed R rule st cs
  unfolding AreAllowed run
  allowed_path st [] h = tt
  allowed_path st (c ∷ cs) h = (h 0 c st refl refl, λ next e. allowed_path next cs (λ k d last g r. h (suc k) d last g (run_step R st next last c (take k cs) e r)))

  pub allowed_front : (st : S) (cs : List C) (c : C) → AreAllowed R rule st (cs ++ c ∷ []) → AreAllowed R rule st cs
  unfolding AreAllowed
  allowed_front st [] c h = tt
  allowed_front st (d ∷ cs) c h = (h.0, λ next e. allowed_front next cs c (h.1 next e))

  pub allowed_at_end : (st : S) (cs : List C) (c : C) (last : S) → AreAllowed R rule st (cs ++ c ∷ []) → run R st cs ≡ Ok last → rule.allows last c ≡ true
  unfolding AreAllowed run
  allowed_at_end st [] c last h e = subst (λ s. rule.allows s c ≡ true) (same_ok st last e) h.0
  allowed_at_end st (d ∷ cs) c last h e = by (R.step st d) refl e (λ next. allowed_at_end next cs c last)
    where
      by : (r : Result S Refusal) → R.step st d ≡ r → ◌≡◌ {A = Result S Refusal} (elim r [ Ok next ↦ run R next cs | Err refusal ↦ Err refusal ]) (Ok last)
          → ((next : S) → AreAllowed R rule next (cs ++ c ∷ []) → run R next cs ≡ Ok last → rule.allows last c ≡ true) → rule.allows last c ≡ true
      by (Ok next) s g more = more next (h.1 next s) g
      by (Err refusal) s g more = absurd (no_ok g)

  module _ (starts : Result S Cause) where
    -- ---- a run from a first state

    module _ (first : S) (begun : starts ≡ Ok first) (cs : List C) where
      in_run : (last : S) → run R first cs ≡ Ok last → IsIn R (run_from starts) (cs ∷ []) last
      unfolding IsIn run_from forced ◌>>=◌
      in_run last led = subst (λ r. IsIn R (run_from r) (cs ∷ []) last) (sym begun) led

      allowed_in_run : AreAllowed R rule first cs → AreAllowedIn R rule (run_from starts) (cs ∷ [])
      unfolding AreAllowedIn run_from forced ◌>>=◌
      allowed_in_run h = subst (λ r. AreAllowedIn R rule (run_from r) (cs ∷ [])) (sym begun) (h, λ last led. tt)

      pub one_run_answered : (before given : List (List C)) (last : S) → given ≡ before ++ cs ∷ [] → run R first cs ≡ Ok last → IsCompleteState R last → AreAllowed R rule first cs
          → Follows R rule (run_from starts) before given (Done last)
      unfolding LeadsTo run_from forced ◌>>=◌
      one_run_answered before given last more led complete allowed = record {
        added = cs ∷ [];
        given_is = more;
        leads = subst (λ r. LeadsTo R (run_from r) (cs ∷ []) (Done last)) (sym begun) (last, led, complete, refl);
        allowed = allowed_in_run allowed;
      }

      pub one_run_left : (last : S) (P : S → Type 0) → run R first cs ≡ Ok last → AreAllowed R rule first cs → P last → IsLeftIn R rule (run_from starts) (cs ∷ []) P
      one_run_left last P led allowed here = record { state = last; is_in = in_run last led; allowed = allowed_in_run allowed; here = here }

      -- the choices that led to the state stand before the one that stopped
      pub one_run_stopped : (before given : List (List C)) (budget : ℕ) (replays : Bool) (kept : List (List C)) (cause : Cause) (c : C) (last : S)
          → given ≡ before ++ (cs ++ c ∷ []) ∷ [] → run R first cs ≡ Ok last → R.step last c ≡ Err (Stopped cause) → AreAllowed R rule first (cs ++ c ∷ [])
          → IsHaltedIn R rule (run_from starts) before given budget replays kept (Passed cause (InChoice c))
      unfolding IsHaltedIn with_choice
      one_run_stopped before given budget replays kept cause c last more led stopped allowed =
          (cs ∷ [], more, one_run_left last (IsStopChoice R rule cause c) led (allowed_front first cs c allowed) (stopped, allowed_at_end first cs c last allowed led))

    pub one_run_not_begun : (before given : List (List C)) (cause : Cause) → starts ≡ Err cause → given ≡ before → Follows R rule (run_from starts) before given (Stops cause)
    unfolding LeadsTo AreAllowedIn run_from forced ◌>>=◌
    one_run_not_begun before given cause e same = record {
      added = [];
      given_is = same ∙ sym (append-nil before);
      leads = ap (λ r. run_from r) e;
      allowed = subst (λ r. AreAllowedIn R rule (run_from r) []) (sym e) tt;
    }
