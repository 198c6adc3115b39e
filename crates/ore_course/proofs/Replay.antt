-- Following a course with the choices of a report decides its first failing line.
--     snoc_front, at_length, past_own    of lists with one item more
--     fronts                     what is kept, run by run
--     next_first, next_later     of that the choice whose turn it is, in the first run and behind it
--     kept_cons, front_cases     the first run that is kept, and the choices given of it
--     run_split, follow_lines_at       one choice more; the choice that is refused
--     stops_not, choice_stops, only_forced    what the stop line says
--     decided_at, decided_on, decided_stop    how the lengths decide
--     refused_here, treated_too, all_given, one_over    a run of which some choice was refused, or all were given, or that was completed
--     replay_over, replay_forced, replay_choice, replay_left    how following the course ends
--     replay_answered, replay_halted    the law
use Rattle.std.proofs.Common.{◌≡◌, ◌⊎◌, ◌≢◌, ℕ, suc, ◌+◌, ◌-◌, ◌≤◌, Bool, true, false, cond, List, [], ◌∷◌, ◌++◌, length, get_or, slice_get, IfSome, refl, sym, ap, ◌∙◌, subst, inl, inr, arith, append_assoc, append-nil}
use Rattle.std.specs.declared.option.Option.{Option}
use Rattle.std.specs.declared.option.Option.TheVariants.{None, Some}
use Rattle.std.specs.declared.result.Result.{Result}
use Rattle.std.specs.declared.result.Result.TheVariants.{Ok, Err}
use Rattle.std.proofs.lemmas.Option.{slice_get_past}
use Rattle.ore_algebra.specs.Lists.{BeginsWith}
use Rattle.ore_algebra.specs.Limits.{Cause}
use Rattle.ore_course.specs.Choices.{IsClosed, Refusal, Runner, treatment_count_in, present, with_choice, without_last, next_kept, Unlawful, Stopped}
use Rattle.ore_course.specs.Course.{Course, forced, Done, Stops, Runs}
use Rattle.ore_course.specs.Leading.{Rule, run, LeadsTo, IsIn}
use Rattle.ore_course.specs.Report.{Reported, StopLine, Report, AtForced, AtChoice, AtBudget}
use Rattle.ore_course.specs.Failing.{ReportPlace, is_cause, follow_lines, is_over, stops_so, is_stopped, stop_passes, failing, first_failing, OfRun, OfChoice, OfStop}
use Rattle.ore_course.specs.Following.{Halt, Follows, IsHaltedIn, InForced, InChoice, Passed, Spent, NoLawful, Memory}
use Rattle.ore_course.specs.Replaying.{End, kept_with, kept_of, stop_decided, AreFronts, decided, replayed}
use Rattle.ore_course.proofs.Basics.{no_nil, true_false}
use Rattle.ore_algebra.proofs.ListLaws.{same_cons}
use Rattle.ore_algebra.proofs.ResultLaws.{same_ok, no_ok}
use Rattle.ore_course.proofs.Honesty.{failing_on, failing_at, failing_run}
use Rattle.ore_course.proofs.GivenRuns.{without_last-with_choice}

-- ---- lists

snoc_front : {A : Type 0} (cs gs : List A) (t : A) → BeginsWith (cs ++ t ∷ []) gs → BeginsWith cs gs ⊎ (gs ≡ cs ++ t ∷ [])
snoc_front cs [] t h = inl (cs, refl)
snoc_front [] (g ∷ []) t (tail, e) = inr (sym (ap (λ x. x ∷ []) (same_cons _ _ _ _ e).0))
snoc_front [] (g ∷ d ∷ gs) t (tail, e) = absurd (no_nil (sym (same_cons _ _ _ _ e).1))
snoc_front (c ∷ cs) (g ∷ gs) t (tail, e) = by (snoc_front cs gs t (tail, (same_cons _ _ _ _ e).1))
  where
    by : BeginsWith cs gs ⊎ (gs ≡ cs ++ t ∷ []) → BeginsWith (c ∷ cs) (g ∷ gs) ⊎ (g ∷ gs ≡ c ∷ cs ++ t ∷ [])
    by (inl (more, f)) = inl (more, ap (λ x. x ∷ cs) (same_cons _ _ _ _ e).0 ∙ ap (λ xs. g ∷ xs) f)
    by (inr f) = inr (ap (λ x. x ∷ gs) (sym (same_cons _ _ _ _ e).0) ∙ ap (λ xs. c ∷ xs) f)

snoc_same : {A : Type 0} (gs cs : List A) (t u : A) → gs ++ t ∷ [] ≡ cs ++ u ∷ [] → (gs ≡ cs) × (t ≡ u)
snoc_same [] [] t u e = (refl, (same_cons _ _ _ _ e).0)
snoc_same [] (c ∷ []) t u e = absurd (no_nil (sym (same_cons _ _ _ _ e).1))
snoc_same [] (c ∷ d ∷ cs) t u e = absurd (no_nil (sym (same_cons _ _ _ _ e).1))
snoc_same (g ∷ []) [] t u e = absurd (no_nil (same_cons _ _ _ _ e).1)
snoc_same (g ∷ h ∷ gs) [] t u e = absurd (no_nil (same_cons _ _ _ _ e).1)
snoc_same (g ∷ gs) (c ∷ cs) t u e =
    let h = same_cons _ _ _ _ e in let k = snoc_same gs cs t u h.1 in (ap (λ x. x ∷ gs) h.0 ∙ ap (λ xs. c ∷ xs) k.0, k.1)

at_length : {A : Type 0} (gs : List A) (c : A) (tail : List A) → slice_get (gs ++ c ∷ tail) (length gs) ≡ Some c
at_length [] c tail = refl
at_length (g ∷ gs) c tail = at_length gs c tail

no_snoc : {A : Type 0} (gs : List A) (t : A) → gs ++ t ∷ [] ≡ [] → ⊥
no_snoc [] t e = no_nil e
no_snoc (g ∷ gs) t e = no_nil e

longer : {A : Type 0} (cs : List A) (t : A) → length cs ≤ length (cs ++ t ∷ [])
longer [] t = omega arith
longer (c ∷ cs) t = let h = longer cs t in omega (arith, h)

past_own : {A : Type 0} (cs : List A) → slice_get cs (length cs) ≡ None
past_own cs = slice_get_past cs (length cs) (omega arith)

past_more : {A : Type 0} (cs : List A) (t : A) → slice_get cs (length (cs ++ t ∷ [])) ≡ None
past_more cs t = slice_get_past cs (length (cs ++ t ∷ [])) (longer cs t)

-- ---- what is kept

module _ {C : Type 0} where
  pub fronts : (kept given : List (List C)) → ((k : ℕ) → BeginsWith (get_or kept k []) (get_or given k [])) → AreFronts kept given
  unfolding AreFronts
  fronts kept [] h = tt
  fronts [] (gs ∷ given) h = (nothing gs (h 0), fronts [] given (λ k. h (suc k)))
    where
      nothing : (gs : List C) → BeginsWith [] gs → gs ≡ []
      nothing [] e = refl
      nothing (g ∷ gs) (tail, e) = absurd (no_nil (sym e))
  fronts (ks ∷ kept) (gs ∷ given) h = (h 0, fronts kept given (λ k. h (suc k)))

  next_first : (ks : List C) (kept : List (List C)) (gs : List C) → next_kept (ks ∷ kept) (gs ∷ []) ≡ slice_get ks (length gs)
  unfolding present
  next_first ks kept gs = refl

  next_later : (ks : List C) (kept : List (List C)) (gs hs : List C) (given : List (List C)) → next_kept (ks ∷ kept) (gs ∷ hs ∷ given) ≡ next_kept kept (hs ∷ given)
  unfolding present
  next_later ks kept gs hs given = ap (λ m. slice_get (get_or (ks ∷ kept) m []) (length (present (hs ∷ given)))) (shift (length given))
    where
      shift : (n : ℕ) → suc (suc n) - 1 ≡ suc (suc n - 1)
      shift n = omega arith

  -- the first run that is kept has the choices of the report, or also the choice of its stop line
  abbrev IsKeptOf : List C → List C → List (List C) → StopLine C → Type 0
  IsKeptOf ks cs more stop = (ks ≡ cs) ⊎ ((more ≡ []) × (choice : C) × (stop ≡ AtChoice choice) × (ks ≡ cs ++ choice ∷ []))

  kept_cons : (cs : List C) (more : List (List C)) (stop : StopLine C) → (ks : List C) × (kept_with (cs ∷ more) stop ≡ ks ∷ kept_with more stop) × IsKeptOf ks cs more stop
  unfolding with_choice
  kept_cons cs more AtForced = (cs, refl, inl refl)
  kept_cons cs [] (AtChoice choice) = (cs ++ choice ∷ [], refl, inr (refl, choice, refl, refl))
  kept_cons cs (ds ∷ more) (AtChoice choice) = (cs, refl, inl refl)
  kept_cons cs more AtBudget = (cs, refl, inl refl)

  kept_none : (stop : StopLine C) → kept_with [] stop ≡ []
  unfolding with_choice
  kept_none AtForced = refl
  kept_none (AtChoice choice) = refl
  kept_none AtBudget = refl

  -- fewer choices were given than the report lists, or these, or also the choice of its stop line
  abbrev IsFront : List C → List C → List (List C) → StopLine C → Type 0
  IsFront gs cs more stop = ((c : C) × (tail : List C) × (cs ≡ gs ++ c ∷ tail)) ⊎ ((cs ≡ gs) ⊎ ((more ≡ []) × (choice : C) × (stop ≡ AtChoice choice) × (gs ≡ cs ++ choice ∷ [])))

  front_cases : (gs ks cs : List C) (more : List (List C)) (stop : StopLine C) → IsKeptOf ks cs more stop → BeginsWith ks gs → IsFront gs cs more stop
  front_cases gs ks cs more stop (inl e) (tail, f) = by tail (sym e ∙ f)
    where
      by : (tail : List C) → cs ≡ gs ++ tail → IsFront gs cs more stop
      by [] g = inr (inl (g ∙ append-nil gs))
      by (c ∷ tail) g = inl (c, tail, g)
  front_cases gs ks cs more stop (inr (e, choice, s, k)) (tail, f) = by (snoc_front cs gs choice (tail, sym k ∙ f))
    where
      front : (tail : List C) → cs ≡ gs ++ tail → IsFront gs cs more stop
      front [] g = inr (inl (g ∙ append-nil gs))
      front (c ∷ tail) g = inl (c, tail, g)

      by : BeginsWith cs gs ⊎ (gs ≡ cs ++ choice ∷ []) → IsFront gs cs more stop
      by (inl (tail, g)) = front tail g
      by (inr g) = inr (inr (e, choice, s, g))

  first_front : (gs : List C) (given : List (List C)) (cs : List C) (more : List (List C)) (stop : StopLine C)
      → AreFronts (kept_with (cs ∷ more) stop) (gs ∷ given) → IsFront gs cs more stop × AreFronts (kept_with more stop) given
  unfolding AreFronts
  first_front gs given cs more stop h =
      let k = kept_cons cs more stop in let f : AreFronts (k.0 ∷ kept_with more stop) (gs ∷ given) = subst (λ kept. AreFronts kept (gs ∷ given)) k.1 h in
      (front_cases gs k.0 cs more stop k.2 f.0, f.1)

  -- the next kept choice stands in the run of the report
  next_there : (gs cs ks : List C) (more : List (List C)) (stop : StopLine C) (c : C) (tail : List C) → cs ≡ gs ++ c ∷ tail → IsKeptOf ks cs more stop → slice_get ks (length gs) ≡ Some c
  next_there gs cs ks more stop c tail e (inl f) = subst (λ ds. slice_get ds (length gs) ≡ Some c) (sym (f ∙ e)) (at_length gs c tail)
  next_there gs cs ks more stop c tail e (inr (m, choice, s, f)) =
      subst (λ ds. slice_get ds (length gs) ≡ Some c) (sym (f ∙ (ap (λ ds. ds ++ choice ∷ []) e ∙ append_assoc gs (c ∷ tail) (choice ∷ [])))) (at_length gs c (tail ++ choice ∷ []))

  first_nothing : (gs : List C) → AreFronts [] (gs ∷ []) → gs ≡ []
  unfolding AreFronts
  first_nothing gs h = h.0

module _ {S C : Type 0} (R : Runner S C) where
  -- ---- one choice more

  run_split : (st : S) (cs : List C) (c : C) (last : S) → run R st (cs ++ c ∷ []) ≡ Ok last → (mid : S) × (run R st cs ≡ Ok mid) × (R.step mid c ≡ Ok last)
  unfolding run
  run_split st [] c last e = by (R.step st c) refl e
    where
      by : (r : Result S Refusal) → R.step st c ≡ r → ◌≡◌ {A = Result S Refusal} (elim r [ Ok next ↦ Ok next | Err refusal ↦ Err refusal ]) (Ok last) → (mid : S) × (◌≡◌ {A = Result S Refusal} (Ok st) (Ok mid)) × (R.step mid c ≡ Ok last)
      by (Ok next) s g = (st, refl, s ∙ g)
      by (Err refusal) s g = absurd (no_ok g)
  run_split st (d ∷ cs) c last e = by (R.step st d) e (λ next. run_split next cs c last)
    where
      by : (r : Result S Refusal) → ◌≡◌ {A = Result S Refusal} (elim r [ Ok next ↦ run R next (cs ++ c ∷ []) | Err refusal ↦ Err refusal ]) (Ok last)
          → ((next : S) → run R next (cs ++ c ∷ []) ≡ Ok last → (mid : S) × (run R next cs ≡ Ok mid) × (R.step mid c ≡ Ok last))
          → (mid : S) × (◌≡◌ {A = Result S Refusal} (elim r [ Ok next ↦ run R next cs | Err refusal ↦ Err refusal ]) (Ok mid)) × (R.step mid c ≡ Ok last)
      by (Ok next) g more = more next g
      by (Err refusal) g more = absurd (no_ok g)

  follow_lines_at : (k n : ℕ) (st : S) (gs : List C) (c : C) (tail : List C) (last : S) (refusal : Refusal)
      → run R st gs ≡ Ok last → R.step last c ≡ Err refusal → follow_lines R k n st (gs ++ c ∷ tail) ≡ Err (OfChoice k (n + length gs) c)
  unfolding run follow_lines
  follow_lines_at k n st [] c tail last refusal e s = by (R.step st c) (ap (λ x. R.step x c) (same_ok st last e) ∙ s)
    where
      by : (r : Result S Refusal) → r ≡ Err refusal → ◌≡◌ {A = Result S (ReportPlace C)} (elim r [ Ok next ↦ follow_lines R k (suc n) next tail | Err other ↦ Err (OfChoice k n c) ]) (Err (OfChoice k (n + 0) c))
      by (Ok next) g = absurd (no_ok (sym g))
      by (Err other) g = ap (λ m. Err (OfChoice k m c)) (omega arith)
  follow_lines_at k n st (d ∷ gs) c tail last refusal e s = by (R.step st d) e (λ next g. follow_lines_at k (suc n) next gs c tail last refusal g s)
    where
      by : (r : Result S Refusal) → ◌≡◌ {A = Result S Refusal} (elim r [ Ok next ↦ run R next gs | Err other ↦ Err other ]) (Ok last)
          → ((next : S) → run R next gs ≡ Ok last → follow_lines R k (suc n) next (gs ++ c ∷ tail) ≡ Err (OfChoice k (suc n + length gs) c))
          → ◌≡◌ {A = Result S (ReportPlace C)} (elim r [ Ok next ↦ follow_lines R k (suc n) next (gs ++ c ∷ tail) | Err other ↦ Err (OfChoice k n d) ]) (Err (OfChoice k (n + suc (length gs)) c))
      by (Ok next) g more = more next g ∙ ap (λ m. Err (OfChoice k m c)) (omega arith)
      by (Err other) g more = absurd (no_ok g)

  -- ---- the stop line

  stops_not : (cause : Reported) (r : Result S Refusal) → r ≡ Err Unlawful → stops_so R cause r ≡ false
  unfolding stops_so
  stops_not cause r e = rw e refl

  stops_not_ok : (cause : Reported) (r : Result S Refusal) (next : S) → r ≡ Ok next → stops_so R cause r ≡ false
  unfolding stops_so
  stops_not_ok cause r next e = rw e refl

  stops_by : (cause : Reported) (r : Result S Refusal) (c : Cause) → r ≡ Err (Stopped c) → stops_so R cause r ≡ is_cause cause c
  unfolding stops_so
  stops_by cause r c e = rw e refl

  module _ {X : Type 0} where
    -- a choice that leads on is no stop
    choice_done : (cause : Reported) (treated : ℕ) (choice : C) (st next : S) (rest : Course S X) (stop : StopLine C) → stop ≡ AtChoice choice → R.step st choice ≡ Ok next
        → stop_passes R cause treated (Some st) rest stop ≡ false
    unfolding stop_passes
    choice_done cause treated choice st next rest stop e s = rw e (stops_not_ok cause (R.step st choice) next s)

    choice_stops : (cause : Reported) (treated : ℕ) (choice : C) (st : S) (rest : Course S X) (stop : StopLine C) (c : Cause) → stop ≡ AtChoice choice → R.step st choice ≡ Err (Stopped c)
        → stop_passes R cause treated (Some st) rest stop ≡ is_cause cause c
    unfolding stop_passes
    choice_stops cause treated choice st rest stop c e s = rw e (stops_by cause (R.step st choice) c s)

    module _ (closed : IsClosed R) where
      -- after a complete run, or before any, the stop line passes at most where forced work stops
      only_forced : (cause : Reported) (treated : ℕ) (last : Option S) (rest : Course S X) (stop : StopLine C) (end : End C) → is_over R last ≡ true
          → is_stopped R cause rest ≡ stop_decided cause treated AtForced end → ((choice : C) → stop_decided cause treated (AtChoice choice) end ≡ false) → stop_decided cause treated AtBudget end ≡ false
          → stop_passes R cause treated last rest stop ≡ stop_decided cause treated stop end
      unfolding stop_passes
      only_forced cause treated last rest AtForced end over f p b = rw over f
      only_forced cause treated None rest (AtChoice choice) end over f p b = sym (p choice)
      only_forced cause treated (Some st) rest (AtChoice choice) end over f p b = stops_not cause (R.step st choice) (closed st choice over) ∙ sym (p choice)
      only_forced cause treated None rest AtBudget end over f p b = sym b
      only_forced cause treated (Some st) rest AtBudget end over f p b = rw over (sym b)

      -- where a run is next, it doesn't pass
      not_before_run : (cause : Reported) (treated : ℕ) (last : Option S) (first : S) (next : S → Course S X) (stop : StopLine C) → is_over R last ≡ true
          → stop_passes R cause treated last (Runs first next) stop ≡ false
      unfolding stop_passes is_stopped
      not_before_run cause treated last first next AtForced over = rw over refl
      not_before_run cause treated None first next (AtChoice choice) over = refl
      not_before_run cause treated (Some st) first next (AtChoice choice) over = stops_not cause (R.step st choice) (closed st choice over)
      not_before_run cause treated None first next AtBudget over = refl
      not_before_run cause treated (Some st) first next AtBudget over = rw over refl

  -- ---- line by line

  module _ (closed : IsClosed R) (report : Report C) (end : End C) where
    abbrev passes_at : End C → StopLine C → Bool
    passes_at e stop = stop_decided report.cause (treatment_count_in R.is_treatment report.runs) stop e

    decided_at : (k : ℕ) (gs : List C) (passed : List (List C)) (cs : List C) (runs : List (List C)) (c : C)
        → slice_get cs (length gs) ≡ Some c → decided R report end k (gs ∷ passed) (cs ∷ runs) ≡ Some (OfChoice k (length gs) c)
    unfolding decided
    decided_at k gs passed cs runs c e = rw (e, decided) refl

    decided_on : (k : ℕ) (gs : List C) (passed : List (List C)) (cs : List C) (runs : List (List C))
        → slice_get cs (length gs) ≡ None → decided R report end k (gs ∷ passed) (cs ∷ runs) ≡ decided R report end (suc k) passed runs
    unfolding decided
    decided_on k gs passed cs runs e = rw (e, decided) refl

    decided_stop : (k : ℕ) (passed : List (List C)) → (passed ≡ [] → passes_at end report.stop ≡ false) → decided R report end k passed [] ≡ Some OfStop
    unfolding decided
    decided_stop k [] h = ap (λ b. cond b None (Some OfStop)) (h refl)
    decided_stop k (gs ∷ passed) h = refl

    module _ {X : Type 0} where
      failing_end : (k : ℕ) (last : Option S) (rest : Course S X) (b : Bool) → stop_passes R report.cause (treatment_count_in R.is_treatment report.runs) last rest report.stop ≡ b
          → failing R report k last rest [] ≡ cond b None (Some OfStop)
      unfolding failing
      failing_end k last rest b e = ap (λ b. cond b None (Some OfStop)) e

      -- the report lists no more runs
      none_over : (k : ℕ) (last : Option S) (first : S) (next : S → Course S X) (gs : List C) (passed : List (List C)) → is_over R last ≡ true
          → failing R report k last (Runs first next) [] ≡ decided R report end k (gs ∷ passed) []
      unfolding decided
      none_over k last first next gs passed over = failing_end k last (Runs first next) false (not_before_run closed report.cause (treatment_count_in R.is_treatment report.runs) last first next report.stop over)

      -- a choice of the report is refused in the state to which the choices before it lead
      refused_here : (k : ℕ) (last : Option S) (first : S) (next : S → Course S X) (gs : List C) (passed : List (List C)) (cs : List C) (more : List (List C)) (c : C) (tail : List C) (st : S) (refusal : Refusal)
          → is_over R last ≡ true → cs ≡ gs ++ c ∷ tail → run R first gs ≡ Ok st → R.step st c ≡ Err refusal
          → failing R report k last (Runs first next) (cs ∷ more) ≡ decided R report end k (gs ∷ passed) (cs ∷ more)
      refused_here k last first next gs passed cs more c tail st refusal over e led s =
          failing_at R report k last first next cs more (OfChoice k (length gs) c) over
          (subst (λ ds. follow_lines R k 0 first ds ≡ Err (OfChoice k (length gs) c)) (sym e) (follow_lines_at k 0 first gs c tail st refusal led s ∙ ap (λ m. Err (OfChoice k m c)) (omega arith)))
          ∙ sym (decided_at k gs passed cs more c (subst (λ ds. slice_get ds (length gs) ≡ Some c) (sym e) (at_length gs c tail)))

      -- the choice of the stop line was given, too, and led on
      treated_too : (k : ℕ) (last : Option S) (first : S) (next : S → Course S X) (gs : List C) (passed : List (List C)) (cs : List C) (more : List (List C)) (st : S) (choice : C)
          → is_over R last ≡ true → run R first gs ≡ Ok st → more ≡ [] → report.stop ≡ AtChoice choice → gs ≡ cs ++ choice ∷ [] → (passed ≡ [] → passes_at end report.stop ≡ false)
          → failing R report k last (Runs first next) (cs ∷ more) ≡ decided R report end k (gs ∷ passed) (cs ∷ more)
      treated_too k last first next gs passed cs more st choice over led m s g ends =
          let mid = run_split first cs choice st (subst (λ ds. run R first ds ≡ Ok st) g led) in
          failing_on R report k last first next cs more mid.0 over mid.1
          ∙ (ap (λ rs. failing R report (suc k) (Some mid.0) (next mid.0) rs) m
          ∙ (failing_end (suc k) (Some mid.0) (next mid.0) false (choice_done report.cause (treatment_count_in R.is_treatment report.runs) choice mid.0 st (next mid.0) report.stop s mid.2)
          ∙ (sym (decided_stop (suc k) passed ends)
          ∙ (ap (λ rs. decided R report end (suc k) passed rs) (sym m)
          ∙ sym (decided_on k gs passed cs more (subst (λ ds. slice_get cs (length ds) ≡ None) (sym g) (past_more cs choice)))))))

      -- all choices of the report's run were given
      all_given : (k : ℕ) (last : Option S) (first : S) (next : S → Course S X) (gs : List C) (passed : List (List C)) (cs : List C) (more : List (List C)) (st : S)
          → is_over R last ≡ true → run R first gs ≡ Ok st → cs ≡ gs → failing R report (suc k) (Some st) (next st) more ≡ decided R report end (suc k) passed more
          → failing R report k last (Runs first next) (cs ∷ more) ≡ decided R report end k (gs ∷ passed) (cs ∷ more)
      all_given k last first next gs passed cs more st over led e rest =
          failing_on R report k last first next cs more st over (subst (λ ds. run R first ds ≡ Ok st) (sym e) led)
          ∙ (rest ∙ sym (decided_on k gs passed cs more (subst (λ ds. slice_get ds (length gs) ≡ None) (sym e) (past_own gs))))

      -- a run that was completed
      one_over : (k : ℕ) (last : Option S) (first : S) (next : S → Course S X) (gs : List C) (passed given : List (List C)) (cs : List C) (more : List (List C)) (st : S)
          → is_over R last ≡ true → run R first gs ≡ Ok st → R.is_complete st ≡ true → AreFronts (kept_with (cs ∷ more) report.stop) (gs ∷ given)
          → ((n : ℕ) → AreFronts (kept_with more report.stop) given → failing R report n (Some st) (next st) more ≡ decided R report end n passed more)
          → (passed ≡ [] → (choice : C) → passes_at end (AtChoice choice) ≡ false)
          → failing R report k last (Runs first next) (cs ∷ more) ≡ decided R report end k (gs ∷ passed) (cs ∷ more)
      one_over k last first next gs passed given cs more st over led complete kept rest ends = by (first_front gs given cs more report.stop kept)
        where
          by : IsFront gs cs more report.stop × AreFronts (kept_with more report.stop) given
              → failing R report k last (Runs first next) (cs ∷ more) ≡ decided R report end k (gs ∷ passed) (cs ∷ more)
          by (inl (c, tail, e), fr) = refused_here k last first next gs passed cs more c tail st Unlawful over e led (closed st c complete)
          by (inr (inl e), fr) = all_given k last first next gs passed cs more st over led e (rest (suc k) fr)
          by (inr (inr (m, choice, s, g)), fr) = treated_too k last first next gs passed cs more st choice over led m s g (λ p. ap (λ stop. passes_at end stop) s ∙ ends p choice)

      -- ---- the course is done, or forced work stops

      replay_over : (rest : Course S X) → ((n : ℕ) (last : Option S) (cs : List C) (runs : List (List C)) → failing R report n last rest (cs ∷ runs) ≡ Some (OfRun n))
          → is_stopped R report.cause rest ≡ passes_at end AtForced → ((choice : C) → passes_at end (AtChoice choice) ≡ false) → passes_at end AtBudget ≡ false
          → (k : ℕ) (last : Option S) (course : Course S X) (given runs : List (List C)) → is_over R last ≡ true → LeadsTo R course given rest → AreFronts (kept_with runs report.stop) given
          → failing R report k last course runs ≡ decided R report end k given runs
      unfolding LeadsTo decided
      replay_over rest no_run forced no_choice budget k last course [] [] over e kept =
          ap (λ p. failing R report k last p []) e
          ∙ failing_end k last rest (passes_at end report.stop) (only_forced closed report.cause (treatment_count_in R.is_treatment report.runs) last rest report.stop end over forced no_choice budget)
      replay_over rest no_run forced no_choice budget k last course [] (cs ∷ runs) over e kept = ap (λ p. failing R report k last p (cs ∷ runs)) e ∙ no_run k last cs runs
      replay_over rest no_run forced no_choice budget k last (Done x) (gs ∷ given) runs over e kept = absurd e
      replay_over rest no_run forced no_choice budget k last (Stops c) (gs ∷ given) runs over e kept = absurd e
      replay_over rest no_run forced no_choice budget k last (Runs first next) (gs ∷ given) [] over (st, led, complete, more) kept = none_over k last first next gs given over
      replay_over rest no_run forced no_choice budget k last (Runs first next) (gs ∷ given) (cs ∷ runs) over (st, led, complete, more) kept =
          one_over k last first next gs given given cs runs st over led complete kept (λ n fr. replay_over rest no_run forced no_choice budget n (Some st) (next st) given runs complete more fr) (λ e. no_choice)

  module _ (closed : IsClosed R) (report : Report C) {X : Type 0} where
    -- ---- a choice stops

    -- the choice of the stop line stops
    at_choice : (c : Cause) (choice : C) (k : ℕ) (st : S) (rest : Course S X) (other : C) → report.stop ≡ AtChoice other → R.step st other ≡ Err (Stopped c)
        → failing R report k (Some st) rest [] ≡ decided R report (Some (Passed c (InChoice choice))) k [] []
    unfolding decided
    at_choice c choice k st rest other t s =
        failing_end closed report (Some (Passed c (InChoice choice))) k (Some st) rest (is_cause report.cause c) (choice_stops report.cause (treatment_count_in R.is_treatment report.runs) other st rest report.stop c t s)
        ∙ ap (λ stop. cond (stop_decided report.cause (treatment_count_in R.is_treatment report.runs) stop (Some (Passed c (InChoice choice)))) None (Some OfStop)) (sym t)

    replay_choice : (c : Cause) (choice : C) (st : S) → R.step st choice ≡ Err (Stopped c) → (k : ℕ) (last : Option S) (course : Course S X) (passed runs : List (List C))
        → is_over R last ≡ true → IsIn R course passed st → AreFronts (kept_with runs report.stop) (with_choice passed choice)
        → failing R report k last course runs ≡ decided R report (Some (Passed c (InChoice choice))) k passed runs
    unfolding IsIn with_choice
    replay_choice c choice st s k last (Done x) passed runs over h kept = absurd h
    replay_choice c choice st s k last (Stops d) passed runs over h kept = absurd h
    replay_choice c choice st s k last (Runs first next) [] runs over h kept = absurd h
    replay_choice c choice st s k last (Runs first next) (gs ∷ []) [] over h kept =
        absurd (no_snoc gs choice (first_nothing (gs ++ choice ∷ []) (subst (λ ks. AreFronts ks ((gs ++ choice ∷ []) ∷ [])) (kept_none report.stop) kept)))
    replay_choice c choice st s k last (Runs first next) (gs ∷ []) (cs ∷ more) over h kept = by (first_front (gs ++ choice ∷ []) [] cs more report.stop kept)
      where
        by : IsFront (gs ++ choice ∷ []) cs more report.stop × AreFronts (kept_with more report.stop) []
            → failing R report k last (Runs first next) (cs ∷ more) ≡ decided R report (Some (Passed c (InChoice choice))) k (gs ∷ []) (cs ∷ more)
        by (inl (d, tail, e), fr) = refused_here closed report (Some (Passed c (InChoice choice))) k last first next gs [] cs more choice (d ∷ tail) st (Stopped c) over (e ∙ append_assoc gs (choice ∷ []) (d ∷ tail)) h s
        by (inr (inl e), fr) = refused_here closed report (Some (Passed c (InChoice choice))) k last first next gs [] cs more choice [] st (Stopped c) over e h s
        by (inr (inr (m, other, t, g)), fr) = let same = snoc_same gs cs choice other g in
            all_given closed report (Some (Passed c (InChoice choice))) k last first next gs [] cs more st over h (sym same.0)
            (subst (λ rs. failing R report (suc k) (Some st) (next st) rs ≡ decided R report (Some (Passed c (InChoice choice))) (suc k) [] rs) (sym m)
            (at_choice c choice (suc k) st (next st) other t (subst (λ d. R.step st d ≡ Err (Stopped c)) same.1 s)))
    replay_choice c choice st s k last (Runs first next) (gs ∷ hs ∷ passed) [] over (mid, led, complete, more_in) kept = none_over closed report (Some (Passed c (InChoice choice))) k last first next gs (hs ∷ passed) over
    replay_choice c choice st s k last (Runs first next) (gs ∷ hs ∷ passed) (cs ∷ more) over (mid, led, complete, more_in) kept =
        one_over closed report (Some (Passed c (InChoice choice))) k last first next gs (hs ∷ passed) (with_choice (hs ∷ passed) choice) cs more mid over led complete kept
        (λ n fr. replay_choice c choice st s n (Some mid) (next mid) (hs ∷ passed) more complete more_in fr) (λ e. absurd (no_nil e))

    -- ---- no kept choice is lawful

    -- the choices of the last run were all given, something is left, and the choice of the stop line isn't lawful
    left_stop : (cause : Reported) (treated : ℕ) (gs : List C) (st : S) (rest : Course S X) (stop : StopLine C) → R.is_complete st ≡ false
        → IfSome (next_kept (kept_with (gs ∷ []) stop) (gs ∷ [])) (λ c. R.step st c ≡ Err Unlawful) → stop_passes R cause treated (Some st) rest stop ≡ stop_decided cause treated stop (Some NoLawful)
    unfolding stop_passes present with_choice
    left_stop cause treated gs st rest AtForced left h = rw left refl
    left_stop cause treated gs st rest (AtChoice choice) left h = stops_not cause (R.step st choice) (subst (λ o. IfSome o (λ c. R.step st c ≡ Err Unlawful)) (at_length gs choice []) h)
    left_stop cause treated gs st rest AtBudget left h = rw left refl

    left_end : (k : ℕ) (gs : List C) (st : S) (rest : Course S X) (more : List (List C)) → R.is_complete st ≡ false
        → IfSome (next_kept (kept_with (gs ∷ more) report.stop) (gs ∷ [])) (λ c. R.step st c ≡ Err Unlawful)
        → failing R report k (Some st) rest more ≡ decided R report (Some NoLawful) k [] more
    unfolding decided
    left_end k gs st rest [] left h =
        failing_end closed report (Some NoLawful) k (Some st) rest (stop_decided report.cause (treatment_count_in R.is_treatment report.runs) report.stop (Some NoLawful)) (left_stop report.cause (treatment_count_in R.is_treatment report.runs) gs st rest report.stop left h)
    left_end k gs st rest (cs ∷ more) left h = failing_run R report k (Some st) rest cs more left

    replay_left : (st : S) → R.is_complete st ≡ false → (k : ℕ) (last : Option S) (course : Course S X) (given runs : List (List C)) → is_over R last ≡ true → IsIn R course given st
        → AreFronts (kept_with runs report.stop) given → IfSome (next_kept (kept_with runs report.stop) given) (λ c. R.step st c ≡ Err Unlawful)
        → failing R report k last course runs ≡ decided R report (Some NoLawful) k given runs
    unfolding IsIn
    replay_left st left k last (Done x) given runs over h kept unlawful = absurd h
    replay_left st left k last (Stops d) given runs over h kept unlawful = absurd h
    replay_left st left k last (Runs first next) [] runs over h kept unlawful = absurd h
    replay_left st left k last (Runs first next) (gs ∷ []) [] over h kept unlawful = none_over closed report (Some NoLawful) k last first next gs [] over
    replay_left st left k last (Runs first next) (gs ∷ []) (cs ∷ more) over h kept unlawful = by (kept_cons cs more report.stop) (first_front gs [] cs more report.stop kept)
      where
        by : (ks : List C) × (kept_with (cs ∷ more) report.stop ≡ ks ∷ kept_with more report.stop) × IsKeptOf ks cs more report.stop
            → IsFront gs cs more report.stop × AreFronts (kept_with more report.stop) []
            → failing R report k last (Runs first next) (cs ∷ more) ≡ decided R report (Some NoLawful) k (gs ∷ []) (cs ∷ more)
        by (ks, same, of) (inl (c, tail, e), fr) = refused_here closed report (Some NoLawful) k last first next gs [] cs more c tail st Unlawful over e h
            (subst (λ o. IfSome o (λ d. R.step st d ≡ Err Unlawful)) (ap (λ kept. next_kept kept (gs ∷ [])) same ∙ next_first ks (kept_with more report.stop) gs ∙ next_there gs cs ks more report.stop c tail e of) unlawful)
        by kept_is (inr (inl e), fr) = all_given closed report (Some NoLawful) k last first next gs [] cs more st over h e
            (left_end (suc k) gs st (next st) more left (subst (λ ds. IfSome (next_kept (kept_with (ds ∷ more) report.stop) (gs ∷ [])) (λ c. R.step st c ≡ Err Unlawful)) e unlawful))
        by kept_is (inr (inr (m, choice, s, g)), fr) = treated_too closed report (Some NoLawful) k last first next gs [] cs more st choice over h m s g
            (λ p. ap (λ stop. stop_decided report.cause (treatment_count_in R.is_treatment report.runs) stop (Some NoLawful)) s)
    replay_left st left k last (Runs first next) (gs ∷ hs ∷ given) [] over (mid, led, complete, more_in) kept unlawful = none_over closed report (Some NoLawful) k last first next gs (hs ∷ given) over
    replay_left st left k last (Runs first next) (gs ∷ hs ∷ given) (cs ∷ more) over (mid, led, complete, more_in) kept unlawful =
        let keeps = kept_cons cs more report.stop in
        let later : IfSome (next_kept (kept_with more report.stop) (hs ∷ given)) (λ c. R.step st c ≡ Err Unlawful) =
        subst (λ o. IfSome o (λ c. R.step st c ≡ Err Unlawful)) (ap (λ kept. next_kept kept (gs ∷ hs ∷ given)) keeps.1 ∙ next_later keeps.0 (kept_with more report.stop) gs hs given) unlawful in
        one_over closed report (Some NoLawful) k last first next gs (hs ∷ given) (hs ∷ given) cs more mid over led complete kept
        (λ n fr. replay_left st left n (Some mid) (next mid) (hs ∷ given) more complete more_in fr later) (λ e. absurd (no_nil e))

  -- ---- the law

  module _ (closed : IsClosed R) (rule : Rule S C) {X : Type 0} (course : Course S X) (report : Report C) (given : List (List C)) where
    done_no_run : (x : X) (n : ℕ) (last : Option S) (cs : List C) (runs : List (List C)) → failing R {X = X} report n last (Done x) (cs ∷ runs) ≡ Some (OfRun n)
    unfolding failing
    done_no_run x n last cs runs = refl

    stops_no_run : (c : Cause) (n : ℕ) (last : Option S) (cs : List C) (runs : List (List C)) → failing R {X = X} report n last (Stops c) (cs ∷ runs) ≡ Some (OfRun n)
    unfolding failing
    stops_no_run c n last cs runs = refl

    -- the course is done: some line fails
    pub replay_answered : (x : X) → Follows R rule course [] given (Done x) → AreFronts (kept_of report) given → first_failing R course report ≡ replayed R report given None
    unfolding is_stopped
    replay_answered x h kept =
        replay_over closed report None (Done x) (done_no_run x) refl (λ choice. refl) refl 0 None course given report.runs refl (subst (λ rs. LeadsTo R course rs (Done x)) (sym h.given_is) h.leads) kept

    replay_forced : (c : Cause) → LeadsTo R course given (Stops c) → AreFronts (kept_of report) given → first_failing R course report ≡ replayed R report given (Some (Passed c InForced))
    unfolding is_stopped
    replay_forced c h kept = replay_over closed report (Some (Passed c InForced)) (Stops c) (stops_no_run c) refl (λ choice. refl) refl 0 None course given report.runs refl h kept

    -- it halts, and memory is at hand: then the first failing place is this, or none
    pub replay_halted : (budget : ℕ) (halt : Halt C) → IsHaltedIn R rule course [] given budget true (kept_of report) halt → AreFronts (kept_of report) given → halt ≢ Memory
        → first_failing R course report ≡ replayed R report given (Some halt)
    unfolding IsHaltedIn
    replay_halted budget (Passed c InForced) h kept memory = replay_forced c (subst (λ rs. LeadsTo R course rs (Stops c)) (sym h.given_is) h.leads) kept
    replay_halted budget (Passed c (InChoice choice)) (passed, e, left) kept memory =
        replay_choice closed report c choice left.state left.here.0 0 None course passed report.runs refl left.is_in (subst (λ rs. AreFronts (kept_of report) rs) e kept)
        ∙ ap (λ rs. decided R report (Some (Passed c (InChoice choice))) 0 rs report.runs) (sym (ap without_last e ∙ without_last-with_choice passed choice))
    replay_halted budget Spent (added, e, left, spent, live) kept memory = absurd (true_false true refl live)
    replay_halted budget NoLawful (added, e, left, replaying) kept memory =
        let is_in : IsIn R course given left.state = subst (λ rs. IsIn R course rs left.state) (sym e) left.is_in in
        replay_left closed report left.state left.here.0 0 None course given report.runs refl is_in kept left.here.1
    replay_halted budget Memory h kept memory = absurd (memory refl)
