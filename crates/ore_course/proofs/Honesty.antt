-- No line of a report fails exactly where the report is honest.
--     is_cause, is_budget, stops_so    what these tests say
--     follow_lines_ok, follow_lines_err      choices that lead on, and choices that don't, line by line
--     failing_on, failing_at, failing_run    what fails where a run is followed, where one of its choices fails, and where it can't begin
--     fails_not, not_fails       no line fails exactly where the runs are followed and the stop line passes
--     forced_stops, forced_ends  this is honesty where forced work stops
--     ends_in, in_ends           it is so where the last run is in a state
--     stop_honest, honest_stop   for each stop line this is honesty
--     honest_exactly             the law
use Rattle.std.proofs.Common.{◌≡◌, ◌⊎◌, ◌↔◌, ℕ, suc, Bool, true, false, cond, not, ◌&&◌, List, [], ◌∷◌, refl, sym, ap, ◌∙◌, subst, inl, inr, arith}
use Rattle.std.specs.declared.option.Option.{Option}
use Rattle.std.specs.declared.option.Option.TheVariants.{None, Some}
use Rattle.std.specs.declared.result.Result.{Result}
use Rattle.std.specs.declared.result.Result.TheVariants.{Ok, Err}
use Rattle.std.proofs.lemmas.Bool.{and_parts, and_from, not-true}
use Rattle.std.proofs.lemmas.Option.{same_Some}
use Rattle.ore_algebra.specs.Limits.{Cause, Overflow, Degree}
use Rattle.ore_course.specs.Choices.{Refusal, Runner, treatment_count_in, Unlawful, Stopped}
use Rattle.ore_course.specs.Course.{Course, Done, Stops, Runs}
use Rattle.ore_course.specs.Leading.{run, LeadsTo, IsIn}
use Rattle.ore_course.specs.Report.{Reported, StopLine, Report, IsHonestAt, IsHonest, ByStop, ByBudget, AtForced, AtChoice, AtBudget}
use Rattle.ore_course.specs.Failing.{OfChoice, ReportPlace, is_cause, is_budget, follow_lines, is_over, stops_so, is_stopped, stop_passes, failing, first_failing, OfRun}
use Rattle.ore_course.specs.FirstFailing.{AreFollowed}
use Rattle.ore_course.proofs.Basics.{result_cases, bool_cases, true_false, no_some}
use Rattle.ore_algebra.proofs.ResultLaws.{same_ok, no_ok}

-- ---- tests

pub is_cause_true : (cause : Reported) (c : Cause) → is_cause cause c ≡ true → cause ≡ ByStop c
unfolding is_cause
is_cause_true (ByStop Overflow) Overflow e = refl
is_cause_true (ByStop Overflow) Degree e = absurd (true_false false e refl)
is_cause_true (ByStop Degree) Overflow e = absurd (true_false false e refl)
is_cause_true (ByStop Degree) Degree e = refl
is_cause_true (ByBudget n) c e = absurd (true_false false e refl)

is_cause_own : (c : Cause) → is_cause (ByStop c) c ≡ true
unfolding is_cause
is_cause_own Overflow = refl
is_cause_own Degree = refl

pub cause_true : (cause : Reported) (c : Cause) → cause ≡ ByStop c → is_cause cause c ≡ true
cause_true cause c e = rw e (is_cause_own c)

pub is_budget_true : (cause : Reported) (n : ℕ) → is_budget cause n ≡ true → cause ≡ ByBudget n
unfolding is_budget
is_budget_true (ByStop c) n e = absurd (true_false false e refl)
is_budget_true (ByBudget m) n e = ap ByBudget (grind (arith, e))

budget_own : (n : ℕ) → is_budget (ByBudget n) n ≡ true
unfolding is_budget
budget_own n = grind arith

pub budget_true : (cause : Reported) (n : ℕ) → cause ≡ ByBudget n → is_budget cause n ≡ true
budget_true cause n e = rw e (budget_own n)

cond_none : {X : Type 0} (b : Bool) (x : X) → ◌≡◌ {A = Option X} (cond b None (Some x)) None → b ≡ true
cond_none true x e = refl
cond_none false x e = absurd (no_some e)

module _ {S C : Type 0} (R : Runner S C) where
  pub stops_so_true : (cause : Reported) (r : Result S Refusal) → stops_so R cause r ≡ true → (c : Cause) × (cause ≡ ByStop c) × (r ≡ Err (Stopped c))
  unfolding stops_so
  stops_so_true cause (Ok next) e = absurd (true_false false e refl)
  stops_so_true cause (Err Unlawful) e = absurd (true_false false e refl)
  stops_so_true cause (Err (Stopped c)) e = (c, is_cause_true cause c e, refl)

  pub so_stops : (cause : Reported) (r : Result S Refusal) (c : Cause) → cause ≡ ByStop c → r ≡ Err (Stopped c) → stops_so R cause r ≡ true
  unfolding stops_so
  so_stops cause r c e h = rw h (cause_true cause c e)

  -- ---- the choices of a run

  pub follow_lines_ok : (k n : ℕ) (st : S) (cs : List C) (last : S) → run R st cs ≡ Ok last → follow_lines R k n st cs ≡ Ok last
  unfolding run follow_lines
  follow_lines_ok k n st [] last e = ap Ok (same_ok _ _ e)
  follow_lines_ok k n st (c ∷ cs) last e = by (R.step st c) e (λ next h. follow_lines_ok k (suc n) next cs last h)
    where
      by : (r : Result S Refusal) → ◌≡◌ {A = Result S Refusal} (elim r [ Ok next ↦ run R next cs | Err refusal ↦ Err refusal ]) (Ok last)
          → ((next : S) → run R next cs ≡ Ok last → follow_lines R k (suc n) next cs ≡ Ok last)
          → ◌≡◌ {A = Result S (ReportPlace C)} (elim r [ Ok next ↦ follow_lines R k (suc n) next cs | Err refusal ↦ Err (OfChoice k n c) ]) (Ok last)
      by (Ok next) h more = more next h
      by (Err refusal) h more = absurd (no_ok h)

  pub follow_lines_err : (k n : ℕ) (st : S) (cs : List C) (refusal : Refusal) → run R st cs ≡ Err refusal → (f : ReportPlace C) × (follow_lines R k n st cs ≡ Err f)
  unfolding run follow_lines
  follow_lines_err k n st [] refusal e = absurd (no_ok (sym e))
  follow_lines_err k n st (c ∷ cs) refusal e = by (R.step st c) e (λ next h. follow_lines_err k (suc n) next cs refusal h)
    where
      by : (r : Result S Refusal) → ◌≡◌ {A = Result S Refusal} (elim r [ Ok next ↦ run R next cs | Err other ↦ Err other ]) (Err refusal)
          → ((next : S) → run R next cs ≡ Err refusal → (f : ReportPlace C) × (follow_lines R k (suc n) next cs ≡ Err f))
          → (f : ReportPlace C) × (◌≡◌ {A = Result S (ReportPlace C)} (elim r [ Ok next ↦ follow_lines R k (suc n) next cs | Err other ↦ Err (OfChoice k n c) ]) (Err f))
      by (Ok next) h more = more next h
      by (Err other) h more = (OfChoice k n c, refl)

  abbrev ChoiceStops : Reported → C → S → Type 0
  ChoiceStops cause choice st = stops_so R cause (R.step st choice) ≡ true

  abbrev IsLeft : Reported → ℕ → S → Type 0
  IsLeft cause treated st = (not (R.is_complete st) && is_budget cause treated) ≡ true

  module _ {X : Type 0} where
    -- ---- one run more

    pub failing_on : (report : Report C) (k : ℕ) (last : Option S) (first : S) (next : S → Course S X) (cs : List C) (runs : List (List C)) (st : S)
        → is_over R last ≡ true → run R first cs ≡ Ok st → failing R report k last (Runs first next) (cs ∷ runs) ≡ failing R report (suc k) (Some st) (next st) runs
    unfolding failing
    failing_on report k last first next cs runs st over led = rw (over, failing, follow_lines_ok k 0 first cs st led, failing) refl

    pub failing_at : (report : Report C) (k : ℕ) (last : Option S) (first : S) (next : S → Course S X) (cs : List C) (runs : List (List C)) (f : ReportPlace C)
        → is_over R last ≡ true → follow_lines R k 0 first cs ≡ Err f → failing R report k last (Runs first next) (cs ∷ runs) ≡ Some f
    unfolding failing
    failing_at report k last first next cs runs f over led = rw (over, failing, led, failing) refl

    pub failing_run : (report : Report C) (k : ℕ) (last : Option S) (course : Course S X) (cs : List C) (runs : List (List C))
        → is_over R last ≡ false → failing R report k last course (cs ∷ runs) ≡ Some (OfRun k)
    unfolding failing
    failing_run report k last (Done x) cs runs over = refl
    failing_run report k last (Stops c) cs runs over = refl
    failing_run report k last (Runs first next) cs runs over = rw (over, failing) refl

    -- ---- the lines up to the stop line

    abbrev Passes : Reported → ℕ → StopLine C → Option S → Course S X → Type 0
    Passes cause treated stop last rest = stop_passes R cause treated last rest stop ≡ true

    fails_not : (report : Report C) (k : ℕ) (last : Option S) (rest : Course S X) (runs : List (List C))
        → failing R report k last rest runs ≡ None → AreFollowed R (Passes report.cause (treatment_count_in R.is_treatment report.runs) report.stop) last rest runs
    unfolding failing AreFollowed
    fails_not report k last rest [] e = cond_none _ _ e
    fails_not report k last (Done x) (cs ∷ runs) e = absurd (no_some e)
    fails_not report k last (Stops c) (cs ∷ runs) e = absurd (no_some e)
    fails_not report k last (Runs first next) (cs ∷ runs) e = by (bool_cases (is_over R last)) (result_cases (run R first cs)) (λ st. fails_not report (suc k) (Some st) (next st) runs)
      where
        by : (is_over R last ≡ true) ⊎ (is_over R last ≡ false) → ((st : S) × (run R first cs ≡ Ok st)) ⊎ ((c : Refusal) × (run R first cs ≡ Err c))
            → ((st : S) → failing R report (suc k) (Some st) (next st) runs ≡ None → AreFollowed R (Passes report.cause (treatment_count_in R.is_treatment report.runs) report.stop) (Some st) (next st) runs)
            → (is_over R last ≡ true) × (st : S) × (run R first cs ≡ Ok st) × AreFollowed R (Passes report.cause (treatment_count_in R.is_treatment report.runs) report.stop) (Some st) (next st) runs
        by (inl over) (inl (st, led)) more = (over, st, led, more st (sym (failing_on report k last first next cs runs st over led) ∙ e))
        by (inl over) (inr (c, led)) more = let f = follow_lines_err k 0 first cs c led in absurd (no_some (sym (failing_at report k last first next cs runs f.0 over f.1) ∙ e))
        by (inr over) r more = absurd (no_some (sym (failing_run report k last (Runs first next) cs runs over) ∙ e))

    not_fails : (report : Report C) (k : ℕ) (last : Option S) (rest : Course S X) (runs : List (List C))
        → AreFollowed R (Passes report.cause (treatment_count_in R.is_treatment report.runs) report.stop) last rest runs → failing R report k last rest runs ≡ None
    unfolding failing AreFollowed
    not_fails report k last rest [] e = rw e refl
    not_fails report k last (Done x) (cs ∷ runs) e = absurd e
    not_fails report k last (Stops c) (cs ∷ runs) e = absurd e
    not_fails report k last (Runs first next) (cs ∷ runs) (over, st, led, more) = failing_on report k last first next cs runs st over led ∙ not_fails report (suc k) (Some st) (next st) runs more

    -- ---- forced work stops

    forced_over : (cause : Reported) (treated : ℕ) (last : Option S) (rest : Course S X) (runs : List (List C)) → AreFollowed R (Passes cause treated AtForced) last rest runs → is_over R last ≡ true
    unfolding AreFollowed stop_passes
    forced_over cause treated last rest [] e = (and_parts _ _ e).0
    forced_over cause treated last (Done x) (cs ∷ runs) e = absurd e
    forced_over cause treated last (Stops c) (cs ∷ runs) e = absurd e
    forced_over cause treated last (Runs first next) (cs ∷ runs) e = e.0

    forced_stops : (cause : Reported) (treated : ℕ) (last : Option S) (rest : Course S X) (runs : List (List C)) → AreFollowed R (Passes cause treated AtForced) last rest runs
        → (c : Cause) × (cause ≡ ByStop c) × LeadsTo R rest runs (Stops c)
    unfolding AreFollowed stop_passes is_stopped LeadsTo
    forced_stops cause treated last (Done x) [] e = absurd (true_false false (and_parts _ _ e).1 refl)
    forced_stops cause treated last (Stops c) [] e = (c, is_cause_true cause c (and_parts _ _ e).1, refl)
    forced_stops cause treated last (Runs first next) [] e = absurd (true_false false (and_parts _ _ e).1 refl)
    forced_stops cause treated last (Done x) (cs ∷ runs) e = absurd e
    forced_stops cause treated last (Stops c) (cs ∷ runs) e = absurd e
    forced_stops cause treated last (Runs first next) (cs ∷ runs) (over, st, led, more) =
        let h = forced_stops cause treated (Some st) (next st) runs more in (h.0, h.1, (st, led, forced_over cause treated (Some st) (next st) runs more, h.2))

    forced_ends : (cause : Reported) (treated : ℕ) (last : Option S) (rest : Course S X) (runs : List (List C)) (c : Cause)
        → is_over R last ≡ true → cause ≡ ByStop c → LeadsTo R rest runs (Stops c) → AreFollowed R (Passes cause treated AtForced) last rest runs
    unfolding AreFollowed stop_passes is_stopped LeadsTo
    forced_ends cause treated last rest [] c over e h = subst (λ p. Passes cause treated AtForced last p) (sym h) (and_from _ _ over (cause_true cause c e))
    forced_ends cause treated last (Done x) (cs ∷ runs) c over e h = absurd h
    forced_ends cause treated last (Stops d) (cs ∷ runs) c over e h = absurd h
    forced_ends cause treated last (Runs first next) (cs ∷ runs) c over e (st, led, complete, more) = (over, st, led, forced_ends cause treated (Some st) (next st) runs c complete e more)

    -- ---- the last run is in a state

    over_of : (Q : Option S → Course S X → Type 0) (last : Option S) (course : Course S X) (cs : List C) (runs : List (List C)) → AreFollowed R Q last course (cs ∷ runs) → is_over R last ≡ true
    unfolding AreFollowed
    over_of Q last (Done x) cs runs e = absurd e
    over_of Q last (Stops c) cs runs e = absurd e
    over_of Q last (Runs first next) cs runs e = e.0

    module _ (Q : Option S → Course S X → Type 0) (P : S → Type 0)
        (in_state : (last : Option S) (rest : Course S X) → Q last rest → (st : S) × (last ≡ Some st) × P st) (at_stop : (st : S) (rest : Course S X) → P st → Q (Some st) rest) where
      ends_in : (last : Option S) (course : Course S X) (cs : List C) (runs : List (List C)) → AreFollowed R Q last course (cs ∷ runs) → (st : S) × IsIn R course (cs ∷ runs) st × P st
      unfolding AreFollowed IsIn
      ends_in last (Done x) cs runs e = absurd e
      ends_in last (Stops c) cs runs e = absurd e
      ends_in last (Runs first next) cs [] (over, st, led, more) = let h = in_state (Some st) (next st) more in (h.0, led ∙ ap Ok (same_Some _ _ h.1), h.2)
      ends_in last (Runs first next) cs (ds ∷ runs) (over, st, led, more) =
          let h = ends_in (Some st) (next st) ds runs more in (h.0, (st, led, over_of Q (Some st) (next st) ds runs more, h.1), h.2)

      in_ends : (last : Option S) (course : Course S X) (runs : List (List C)) (st : S) → is_over R last ≡ true → IsIn R course runs st → P st → AreFollowed R Q last course runs
      unfolding AreFollowed IsIn
      in_ends last (Done x) runs st over h p = absurd h
      in_ends last (Stops c) runs st over h p = absurd h
      in_ends last (Runs first next) [] st over h p = absurd h
      in_ends last (Runs first next) (cs ∷ []) st over h p = (over, st, h, at_stop st (next st) p)
      in_ends last (Runs first next) (cs ∷ ds ∷ runs) st over (mid, led, complete, more) p = (over, mid, led, in_ends (Some mid) (next mid) (ds ∷ runs) st complete more p)

      none_ends : (course : Course S X) (runs : List (List C)) → AreFollowed R Q None course runs → (st : S) × IsIn R course runs st × P st
      unfolding AreFollowed
      none_ends course [] e = let h = in_state None course e in absurd (no_some (sym h.1))
      none_ends course (cs ∷ runs) e = ends_in None course cs runs e

    choice_state : (cause : Reported) (treated : ℕ) (choice : C) (last : Option S) (rest : Course S X) → Passes cause treated (AtChoice choice) last rest → (st : S) × (last ≡ Some st) × ChoiceStops cause choice st
    unfolding stop_passes
    choice_state cause treated choice None rest e = absurd (true_false false e refl)
    choice_state cause treated choice (Some st) rest e = (st, refl, e)

    budget_state : (cause : Reported) (treated : ℕ) (last : Option S) (rest : Course S X) → Passes cause treated AtBudget last rest → (st : S) × (last ≡ Some st) × IsLeft cause treated st
    unfolding stop_passes
    budget_state cause treated None rest e = absurd (true_false false e refl)
    budget_state cause treated (Some st) rest e = (st, refl, e)

    choice_passes : (cause : Reported) (treated : ℕ) (choice : C) (st : S) (rest : Course S X) → ChoiceStops cause choice st → Passes cause treated (AtChoice choice) (Some st) rest
    unfolding stop_passes
    choice_passes cause treated choice st rest e = e

    budget_passes : (cause : Reported) (treated : ℕ) (st : S) (rest : Course S X) → IsLeft cause treated st → Passes cause treated AtBudget (Some st) rest
    unfolding stop_passes
    budget_passes cause treated st rest e = e

    -- ---- the law

    stop_honest : (course : Course S X) (runs : List (List C)) (cause : Reported) (stop : StopLine C) → AreFollowed R (Passes cause (treatment_count_in R.is_treatment runs) stop) None course runs → IsHonestAt R course runs cause stop
    unfolding IsHonestAt
    stop_honest course runs cause AtForced e = forced_stops cause (treatment_count_in R.is_treatment runs) None course runs e
    stop_honest course runs cause (AtChoice choice) e =
        let h = none_ends (Passes cause (treatment_count_in R.is_treatment runs) (AtChoice choice)) (ChoiceStops cause choice) (choice_state cause (treatment_count_in R.is_treatment runs) choice) (choice_passes cause (treatment_count_in R.is_treatment runs) choice) course runs e in
        let s = stops_so_true cause _ h.2 in (s.0, s.1, h.0, h.1, s.2)
    stop_honest course runs cause AtBudget e =
        let h = none_ends (Passes cause (treatment_count_in R.is_treatment runs) AtBudget) (IsLeft cause (treatment_count_in R.is_treatment runs)) (budget_state cause (treatment_count_in R.is_treatment runs)) (budget_passes cause (treatment_count_in R.is_treatment runs)) course runs e in
        let s = and_parts _ _ h.2 in (is_budget_true cause (treatment_count_in R.is_treatment runs) s.1, h.0, h.1, not-true _ s.0)

    honest_stop : (course : Course S X) (runs : List (List C)) (cause : Reported) (stop : StopLine C) → IsHonestAt R course runs cause stop → AreFollowed R (Passes cause (treatment_count_in R.is_treatment runs) stop) None course runs
    unfolding IsHonestAt
    honest_stop course runs cause AtForced (c, e, h) = forced_ends cause (treatment_count_in R.is_treatment runs) None course runs c refl e h
    honest_stop course runs cause (AtChoice choice) (c, e, st, h, s) =
        in_ends (Passes cause (treatment_count_in R.is_treatment runs) (AtChoice choice)) (ChoiceStops cause choice) (choice_state cause (treatment_count_in R.is_treatment runs) choice) (choice_passes cause (treatment_count_in R.is_treatment runs) choice) None course runs st refl h (so_stops cause _ c e s)
    honest_stop course runs cause AtBudget (e, st, h, s) =
        in_ends (Passes cause (treatment_count_in R.is_treatment runs) AtBudget) (IsLeft cause (treatment_count_in R.is_treatment runs)) (budget_state cause (treatment_count_in R.is_treatment runs)) (budget_passes cause (treatment_count_in R.is_treatment runs)) None course runs st refl h
        (and_from _ _ (rw s refl) (budget_true cause (treatment_count_in R.is_treatment runs) e))

    pub honest_exactly : (course : Course S X) (report : Report C) → (first_failing R course report ≡ None) ↔ IsHonest R course report
    honest_exactly course report = (
      λ e. stop_honest course report.runs report.cause report.stop (fails_not report 0 None course report.runs e),
      λ h. not_fails report 0 None course report.runs (honest_stop course report.runs report.cause report.stop h),
    )
