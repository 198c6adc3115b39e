-- The place that is found is the first that fails, and no other is.
--     follow_lines_refused, follow_lines_here    the choice of a run that is refused is found, and what is found is refused
--     FailsFrom                  the lines before a place pass, and its own doesn't, from a run on
--     one_more                   one run before others
--     found                      what is found fails so
--     begin_fails, run_fails, choice_fails, stop_fails    what fails so is found
--     first_exactly              the law
use Rattle.std.proofs.Common.{◌≡◌, ◌⊎◌, ◌↔◌, ℕ, zero, suc, ◌+◌, ◌<◌, Bool, true, false, cond, List, [], ◌∷◌, length, slice_get, take, refl, sym, ap, ◌∙◌, subst, inl, inr, arith}
use Rattle.std.specs.declared.option.Option.{Option}
use Rattle.std.specs.declared.option.Option.TheVariants.{None, Some}
use Rattle.std.specs.declared.result.Result.{Result}
use Rattle.std.specs.declared.result.Result.TheVariants.{Ok, Err}
use Rattle.std.proofs.lemmas.Option.{slice_get_past, same_Some}
use Rattle.ore_course.specs.Choices.{Refusal, Runner, treatment_count_in}
use Rattle.ore_course.specs.Course.{Course, Done, Stops, Runs}
use Rattle.ore_course.specs.Leading.{run}
use Rattle.ore_course.specs.Report.{Report}
use Rattle.ore_course.specs.Failing.{ReportPlace, OfRun, OfChoice, OfStop, follow_lines, is_over, stop_passes, failing, first_failing}
use Rattle.ore_course.specs.FirstFailing.{AreFollowed, CannotBegin, IsRefused, IsFirstFailing}
use Rattle.ore_course.proofs.Basics.{no_some, result_cases, bool_cases}
use Rattle.ore_algebra.proofs.ResultLaws.{same_ok, no_ok}
use Rattle.ore_course.proofs.Leads.{run_step}
use Rattle.ore_course.proofs.Honesty.{failing_on, failing_at, failing_run}

nothing_there : {A : Type 0} (n : ℕ) (x : A) → slice_get [] n ≡ Some x → ⊥
nothing_there n x e = no_some (sym e ∙ slice_get_past [] n (omega arith))

cond_some : {C : Type 0} (b : Bool) (place : ReportPlace C) → ◌≡◌ {A = Option (ReportPlace C)} (cond b None (Some OfStop)) (Some place) → (b ≡ false) × (OfStop ≡ place)
cond_some true place e = absurd (no_some (sym e))
cond_some false place e = (refl, same_Some OfStop place e)

module _ {S C : Type 0} (R : Runner S C) where
  -- ---- the choices of a run

  follow_lines_refused : (k o : ℕ) (st : S) (cs : List C) (refusal : Refusal) → run R st cs ≡ Err refusal
      → (n : ℕ) × (c : C) × (last : S) × (why : Refusal) × (follow_lines R k o st cs ≡ Err (OfChoice k (o + n) c)) × (slice_get cs n ≡ Some c) × (run R st (take n cs) ≡ Ok last) × (R.step last c ≡ Err why)
  unfolding run follow_lines
  follow_lines_refused k o st [] refusal e = absurd (no_ok (sym e))
  follow_lines_refused k o st (c ∷ cs) refusal e = by (R.step st c) refl e (λ next. follow_lines_refused k (suc o) next cs refusal)
    where
      by : (r : Result S Refusal) → R.step st c ≡ r → ◌≡◌ {A = Result S Refusal} (elim r [ Ok next ↦ run R next cs | Err other ↦ Err other ]) (Err refusal)
          → ((next : S) → run R next cs ≡ Err refusal
          → (n : ℕ) × (d : C) × (last : S) × (why : Refusal) × (follow_lines R k (suc o) next cs ≡ Err (OfChoice k (suc o + n) d)) × (slice_get cs n ≡ Some d) × (run R next (take n cs) ≡ Ok last) × (R.step last d ≡ Err why))
          → (n : ℕ) × (d : C) × (last : S) × (why : Refusal) × (◌≡◌ {A = Result S (ReportPlace C)} (elim r [ Ok next ↦ follow_lines R k (suc o) next cs | Err other ↦ Err (OfChoice k o c) ]) (Err (OfChoice k (o + n) d)))
          × (slice_get (c ∷ cs) n ≡ Some d) × (run R st (take n (c ∷ cs)) ≡ Ok last) × (R.step last d ≡ Err why)
      by (Ok next) s h more = let m = more next h in (suc m.0, m.1, m.2, m.3, m.4 ∙ ap (λ n. Err (OfChoice k n m.1)) (omega arith), m.5, run_step R st next m.2 c (take m.0 cs) s m.6, m.7)
      by (Err other) s h more = (0, c, st, other, ap (λ n. Err (OfChoice k n c)) (omega arith), refl, refl, s)

  follow_lines_here : (k o n : ℕ) (st : S) (cs : List C) (c : C) (last : S) (why : Refusal) → slice_get cs n ≡ Some c → run R st (take n cs) ≡ Ok last → R.step last c ≡ Err why
      → follow_lines R k o st cs ≡ Err (OfChoice k (o + n) c)
  unfolding run follow_lines
  follow_lines_here k o n st [] c last why g led w = absurd (nothing_there n c g)
  follow_lines_here k o zero st (d ∷ cs) c last why g led w = by (R.step st d) (subst (λ x. R.step x d ≡ Err why) (sym (same_ok st last led)) (subst (λ x. R.step last x ≡ Err why) (sym (same_Some d c g)) w))
    where
      by : (r : Result S Refusal) → r ≡ Err why → ◌≡◌ {A = Result S (ReportPlace C)} (elim r [ Ok next ↦ follow_lines R k (suc o) next cs | Err other ↦ Err (OfChoice k o d) ]) (Err (OfChoice k (o + 0) c))
      by (Ok next) s = absurd (no_ok (sym s))
      by (Err other) s = ap (λ m. Err (OfChoice k m d)) (omega arith) ∙ ap (λ x. Err (OfChoice k (o + 0) x)) (same_Some d c g)
  follow_lines_here k o (suc n) st (d ∷ cs) c last why g led w = by (R.step st d) led (λ next h. follow_lines_here k (suc o) n next cs c last why g h w)
    where
      by : (r : Result S Refusal) → ◌≡◌ {A = Result S Refusal} (elim r [ Ok next ↦ run R next (take n cs) | Err other ↦ Err other ]) (Ok last)
          → ((next : S) → run R next (take n cs) ≡ Ok last → follow_lines R k (suc o) next cs ≡ Err (OfChoice k (suc o + n) c))
          → ◌≡◌ {A = Result S (ReportPlace C)} (elim r [ Ok next ↦ follow_lines R k (suc o) next cs | Err other ↦ Err (OfChoice k o d) ]) (Err (OfChoice k (o + suc n) c))
      by (Ok next) h more = more next h ∙ ap (λ m. Err (OfChoice k m c)) (omega arith)
      by (Err other) h more = absurd (no_ok h)

  module _ {X : Type 0} (report : Report C) where
    abbrev StopFails : Option S → Course S X → Type 0
    StopFails last rest = stop_passes R report.cause (treatment_count_in R.is_treatment report.runs) last rest report.stop ≡ false

    -- the runs that are left begin with run k
    FailsFrom : ℕ → Option S → Course S X → List (List C) → ReportPlace C → Type 0
    FailsFrom k last rest runs (OfRun j) = (m : ℕ) × (j ≡ k + m) × (m < length runs) × AreFollowed R (CannotBegin R) last rest (take m runs)
    FailsFrom k last rest runs (OfChoice j n c) =
        (m : ℕ) × (j ≡ k + m) × (cs : List C) × (slice_get runs m ≡ Some cs) × (slice_get cs n ≡ Some c) × AreFollowed R (IsRefused R (take n cs) c) last rest (take m runs)
    FailsFrom k last rest runs OfStop = AreFollowed R StopFails last rest runs

    -- ---- what is found fails

    one_more : (k : ℕ) (last : Option S) (first : S) (next : S → Course S X) (cs : List C) (runs : List (List C)) (st : S) (place : ReportPlace C)
        → is_over R last ≡ true → run R first cs ≡ Ok st → FailsFrom (suc k) (Some st) (next st) runs place → FailsFrom k last (Runs first next) (cs ∷ runs) place
    unfolding FailsFrom AreFollowed
    one_more k last first next cs runs st (OfRun j) over led (m, e, less, h) = (suc m, omega (arith, e), omega (arith, less), (over, st, led, h))
    one_more k last first next cs runs st (OfChoice j n c) over led (m, e, ds, g, f, h) = (suc m, omega (arith, e), ds, g, f, (over, st, led, h))
    one_more k last first next cs runs st OfStop over led h = (over, st, led, h)

    no_run : (k : ℕ) (last : Option S) (rest : Course S X) (cs : List C) (runs : List (List C)) (place : ReportPlace C) → CannotBegin R last rest → OfRun k ≡ place → FailsFrom k last rest (cs ∷ runs) place
    unfolding FailsFrom AreFollowed
    no_run k last rest cs runs place h e = subst (λ p. FailsFrom k last rest (cs ∷ runs) p) e (0, omega arith, omega arith, h)

    found : (k : ℕ) (last : Option S) (rest : Course S X) (runs : List (List C)) (place : ReportPlace C) → failing R report k last rest runs ≡ Some place → FailsFrom k last rest runs place
    unfolding failing FailsFrom AreFollowed CannotBegin IsRefused
    found k last rest [] place e = let h = cond_some (stop_passes R report.cause (treatment_count_in R.is_treatment report.runs) last rest report.stop) place e in subst (λ p. FailsFrom k last rest [] p) h.1 h.0
    found k last (Done x) (cs ∷ runs) place e = no_run k last (Done x) cs runs place tt (same_Some (OfRun k) place e)
    found k last (Stops cause) (cs ∷ runs) place e = no_run k last (Stops cause) cs runs place tt (same_Some (OfRun k) place e)
    found k last (Runs first next) (cs ∷ runs) place e = by (bool_cases (is_over R last)) (result_cases (run R first cs)) (λ st. found (suc k) (Some st) (next st) runs place)
      where
        by : (is_over R last ≡ true) ⊎ (is_over R last ≡ false) → ((st : S) × (run R first cs ≡ Ok st)) ⊎ ((refusal : Refusal) × (run R first cs ≡ Err refusal))
            → ((st : S) → failing R report (suc k) (Some st) (next st) runs ≡ Some place → FailsFrom (suc k) (Some st) (next st) runs place) → FailsFrom k last (Runs first next) (cs ∷ runs) place
        by (inl over) (inl (st, led)) more = one_more k last first next cs runs st place over led (more st (sym (failing_on R report k last first next cs runs st over led) ∙ e))
        by (inl over) (inr (refusal, led)) more =
            let f = follow_lines_refused k 0 first cs refusal led in
            let same : follow_lines R k 0 first cs ≡ Err (OfChoice k f.0 f.1) = f.4 ∙ ap (λ n. Err (OfChoice k n f.1)) (omega arith) in
            subst (λ p. FailsFrom k last (Runs first next) (cs ∷ runs) p) (same_Some (OfChoice k f.0 f.1) place (sym (failing_at R report k last first next cs runs (OfChoice k f.0 f.1) over same) ∙ e))
            (0, omega arith, cs, refl, f.5, (over, f.2, f.3, f.6, f.7))
        by (inr over) r more = no_run k last (Runs first next) cs runs place over (same_Some (OfRun k) place (sym (failing_run R report k last (Runs first next) cs runs over) ∙ e))

    -- ---- what fails is found

    begin_fails : (k : ℕ) (last : Option S) (rest : Course S X) (cs : List C) (runs : List (List C)) → CannotBegin R last rest → failing R report k last rest (cs ∷ runs) ≡ Some (OfRun k)
    unfolding failing CannotBegin
    begin_fails k last (Done x) cs runs h = refl
    begin_fails k last (Stops cause) cs runs h = refl
    begin_fails k last (Runs first next) cs runs h = failing_run R report k last (Runs first next) cs runs h

    run_fails : (k m : ℕ) (last : Option S) (rest : Course S X) (runs : List (List C)) → m < length runs → AreFollowed R (CannotBegin R) last rest (take m runs)
        → failing R report k last rest runs ≡ Some (OfRun (k + m))
    unfolding AreFollowed
    run_fails k m last rest [] less h = absurd (omega (arith, less))
    run_fails k zero last rest (cs ∷ runs) less h = begin_fails k last rest cs runs h ∙ ap (λ n. Some (OfRun n)) (omega arith)
    run_fails k (suc m) last (Done x) (cs ∷ runs) less h = absurd h
    run_fails k (suc m) last (Stops cause) (cs ∷ runs) less h = absurd h
    run_fails k (suc m) last (Runs first next) (cs ∷ runs) less (over, st, led, h) =
        failing_on R report k last first next cs runs st over led ∙ (run_fails (suc k) m (Some st) (next st) runs (omega (arith, less)) h ∙ ap (λ n. Some (OfRun n)) (omega arith))

    refused_fails : (k n : ℕ) (last : Option S) (rest : Course S X) (cs : List C) (runs : List (List C)) (c : C) → slice_get cs n ≡ Some c → IsRefused R (take n cs) c last rest
        → failing R report k last rest (cs ∷ runs) ≡ Some (OfChoice k n c)
    unfolding IsRefused
    refused_fails k n last (Done x) cs runs c g h = absurd h
    refused_fails k n last (Stops cause) cs runs c g h = absurd h
    refused_fails k n last (Runs first next) cs runs c g (over, st, why, led, w) =
        failing_at R report k last first next cs runs (OfChoice k n c) over (follow_lines_here k 0 n first cs c st why g led w ∙ ap (λ m. Err (OfChoice k m c)) (omega arith))

    choice_fails : (k m n : ℕ) (last : Option S) (rest : Course S X) (runs : List (List C)) (cs : List C) (c : C) → slice_get runs m ≡ Some cs → slice_get cs n ≡ Some c
        → AreFollowed R (IsRefused R (take n cs) c) last rest (take m runs) → failing R report k last rest runs ≡ Some (OfChoice (k + m) n c)
    unfolding AreFollowed
    choice_fails k m n last rest [] cs c g f h = absurd (nothing_there m cs g)
    choice_fails k zero n last rest (ds ∷ runs) cs c g f h =
        let same = same_Some cs ds (sym g) in
        refused_fails k n last rest ds runs c (subst (λ es. slice_get es n ≡ Some c) same f) (subst (λ es. IsRefused R (take n es) c last rest) same h) ∙ ap (λ j. Some (OfChoice j n c)) (omega arith)
    choice_fails k (suc m) n last (Done x) (ds ∷ runs) cs c g f h = absurd h
    choice_fails k (suc m) n last (Stops cause) (ds ∷ runs) cs c g f h = absurd h
    choice_fails k (suc m) n last (Runs first next) (ds ∷ runs) cs c g f (over, st, led, h) =
        failing_on R report k last first next ds runs st over led ∙ (choice_fails (suc k) m n (Some st) (next st) runs cs c g f h ∙ ap (λ j. Some (OfChoice j n c)) (omega arith))

    stop_fails : (k : ℕ) (last : Option S) (rest : Course S X) (runs : List (List C)) → AreFollowed R StopFails last rest runs → failing R report k last rest runs ≡ Some OfStop
    unfolding failing AreFollowed
    stop_fails k last rest [] h = ap (λ b. cond b None (Some OfStop)) h
    stop_fails k last (Done x) (cs ∷ runs) h = absurd h
    stop_fails k last (Stops cause) (cs ∷ runs) h = absurd h
    stop_fails k last (Runs first next) (cs ∷ runs) (over, st, led, h) = failing_on R report k last first next cs runs st over led ∙ stop_fails (suc k) (Some st) (next st) runs h

    -- ---- the law

    from_first : (course : Course S X) (place : ReportPlace C) → FailsFrom 0 None course report.runs place → IsFirstFailing R course report place
    unfolding FailsFrom IsFirstFailing
    from_first course (OfRun j) (m, e, less, h) =
        let same : m ≡ j = omega (arith, e) in subst (λ i. (i < length report.runs) × AreFollowed R (CannotBegin R) None course (take i report.runs)) same (less, h)
    from_first course (OfChoice j n c) (m, e, cs, g, f, h) =
        let same : m ≡ j = omega (arith, e) in
        (cs, subst (λ i. slice_get report.runs i ≡ Some cs) same g, f, subst (λ i. AreFollowed R (IsRefused R (take n cs) c) None course (take i report.runs)) same h)
    from_first course OfStop h = h

    first_from : (course : Course S X) (place : ReportPlace C) → IsFirstFailing R course report place → first_failing R course report ≡ Some place
    unfolding IsFirstFailing
    first_from course (OfRun j) (less, h) = run_fails 0 j None course report.runs less h ∙ ap (λ n. Some (OfRun n)) (omega arith)
    first_from course (OfChoice j n c) (cs, g, f, h) = choice_fails 0 j n None course report.runs cs c g f h ∙ ap (λ i. Some (OfChoice i n c)) (omega arith)
    first_from course OfStop h = stop_fails 0 None course report.runs h

    pub first_exactly : (course : Course S X) (place : ReportPlace C) → (first_failing R course report ≡ Some place) ↔ IsFirstFailing R course report place
    first_exactly course place = ((λ e. from_first course place (found 0 None course report.runs place e)), first_from course place)
