-- A run by a chooser follows the course that has one run.
--     allowed                      what is allowed place by place is allowed along the run
--     left_open                    where a pair may be treated the state isn't complete
--     last_led                     the last state is that of the progress
--     run_answered                 a complete run answers
--     run_stopped, stopped_at      where an operation stopped, the call halts
--     forced_halts                 where the first basis stops, forced work stops
--     left_in                      the state that is reached stands at the end of the present run
--     run_halted                   each halt of a run is one of its course
use Rattle.std.proofs.Common.{◌≡◌, ℕ, ◌+◌, ◌-◌, Bool, false, List, [], ◌∷◌, ◌++◌, length, map, IfSome, refl, sym, ap, ◌∙◌, subst, arith}
use Rattle.std.specs.declared.option.Option.{Option}
use Rattle.std.specs.declared.option.Option.TheVariants.{None, Some}
use Rattle.std.specs.declared.result.Result.TheVariants.{Ok, Err}
use Rattle.ore_algebra.specs.Limits.{Cause, Overflow, Degree, program}
use Rattle.ore_course.specs.Choices.{Runner, Unlawful}
use Rattle.ore_course.specs.Course.{Course, Done, Runs, run_from}
use Rattle.ore_course.specs.Following.{Follows, InChoice, Passed, IsLeftIn, IsSpent, IsUnlawful, IsHaltedIn}
use Rattle.ore_course.specs.Leading.{Rule, AreAllowed}
use Rattle.ore_course.proofs.Calls.{started}
use Rattle.ore_course.proofs.OneRun.{allowed_path, one_run_answered, one_run_left, one_run_not_begun, one_run_stopped}
use Rattle.ore_rational.specs.Field.{rationals, rational_inverses}
use Rattle.ore_monomial.specs.Gives.{Fails}
use Rattle.ore_monomial.specs.declared.stop.RingStop.{RingStop}
use Rattle.ore_monomial.specs.Signature.{Signature}
use Rattle.ore_monomial.specs.Term.{Term}
use Rattle.ore_rows.specs.Arithmetic.{within}
use Rattle.ore_rows.specs.Reduction.{leads_of}
use Rattle.ore_rows.specs.BasisLeads.{BasisLeads}
use Rattle.ore_rows.specs.Stored.{OperatorMatrix, rows_of, sums_of}
use Rattle.ore_rows.specs.StoredBasis.{monics}
use Rattle.ore_rows.specs.declared.choices.Choice.{Choice}
use Rattle.ore_rows.specs.declared.choices.Choice.TheVariants.{Treat}
use Rattle.ore_pairs.specs.PairList.{pairs_of}
use Rattle.ore_pairs.specs.PairRule.{is_lawful, none_treatable, AreAllListed, HasUnlisted}
use Rattle.ore_pairs.specs.Reached.{first_state, rule_of, IsReached, TreatmentStops, MayBeSpent}
use Rattle.ore_pairs.specs.Reached as reached
use Rattle.ore_pairs.specs.Run.{RunState}
use Rattle.ore_pairs.specs.Runner.{runner_within, run_within}
use Rattle.ore_pairs.proofs.CompleteStates.{tested, treatable_left, unlawful_step}
use Rattle.ore_groebner.specs.Choosing.{present, next_kept, Settings}
use Rattle.ore_groebner.specs.Following.{IsLed}
use Rattle.ore_groebner.specs.Courses.{last_of, place_in_course, FollowsTo, HaltsIn}
use Rattle.ore_groebner.specs.Halting as halting
use Rattle.ore_groebner.specs.Honest.{IsStoppedAt, IsHalted, HasOneMoreRun, HasRunsAt, HasRunsAfter}
use Rattle.ore_groebner.specs.RunProgress.{run_state, entries_from, new_rows, IsProgressOf}
use Rattle.ore_groebner.specs.declared.outcome.Finished.{Finished}
use Rattle.ore_groebner.specs.declared.outcome.Halt.{Halt}
use Rattle.ore_groebner.specs.declared.outcome.Halt.TheVariants as halt
use Rattle.ore_groebner.specs.declared.outcome.StopAt.{StopAt}
use Rattle.ore_groebner.specs.declared.outcome.StopAt.TheVariants as at
use Rattle.ore_groebner.specs.declared.progress.Progress.{Progress}
use Rattle.ore_groebner.proofs.Ending.{all_complete}
use Rattle.ore_groebner.proofs.EngineCalls.{work_halts}

-- where some pair may be treated, not every pair is listed
left_open : (leads : List Term) (listed : List (ℕ × ℕ)) → HasUnlisted leads listed → none_treatable leads listed ≡ false
left_open leads listed (i, j, h) = treatable_left leads listed i j h

-- the parts of the answer are those of the progress
pub last_led : (s : Signature) (p : Progress) (f : Finished) → IsProgressOf s p → f.basis ≡ p.basis → f.events ≡ p.events.items → rows_of f.syzygies ≡ map sums_of p.syzygies.items → f.origins ≡ p.origins.items → run_state p ≡ last_of f
last_led s p f fits basis events syzygies origins = λ k. record { basis = monics (sym basis k); listed = entries_from (first k) (sym events k); syzygies = sym syzygies k; origins = sym origins k }
  where
    taken : (m first rows : ℕ) → m ≡ first + rows → first ≡ m - rows
    taken m first rows h = omega (arith, h)

    first : p.first ≡ length f.basis.items - new_rows f.events
    first = taken (length p.basis.items) p.first (new_rows p.events.items) fits.counted ∙ (λ k. length (sym basis k).items - new_rows (sym events k))

module _ (s : Signature) (allows : BasisLeads → List (ℕ × ℕ) → Choice → Bool) (allows_spent : BasisLeads → List (ℕ × ℕ) → Bool) (a : OperatorMatrix) where
  abbrev rule : Rule (RunState rationals) Choice
  rule = rule_of s allows allows_spent

  abbrev R : Runner (RunState rationals) Choice
  R = runner_within program s

  abbrev course : Course (RunState rationals) (RunState rationals)
  course = run_within program s (rows_of a)

  abbrev AllAllowed : List Choice → Type 0
  AllAllowed cs = reached.RuleAllowsEach s a allows cs

  allowed : (start : RunState rationals) (cs : List Choice) → first_state s a ≡ Ok start → AllAllowed cs → AreAllowed R rule start cs
  allowed start cs begun h = allowed_path R rule start cs (λ k c last g e. h k c last g (record { start = start; begun = begun; led = e }))

  module _ (before given : List (List Choice)) where
    pub run_answered : (p : Progress) (f : Finished) → IsLed s a allows (present given) p → AreAllListed (leads_of p.basis.items) p.listed → run_state p ≡ last_of f → HasOneMoreRun before given → FollowsTo s allows allows_spent course before given (last_of f)
    run_answered p f led all same more = subst (λ last. Follows R rule course before given (Done last)) same
        (one_run_answered R rule (first_state s a) led.start led.begun (present given) before given (run_state p) more led.led (tested rationals (run_state p) (all_complete s a allows p led.fits all)) (allowed led.start (present given) led.begun led.allowed))

    -- the first basis stops, and no run is begun
    pub forced_halts : given ≡ before → (settings : Settings) (r : RingStop) (h : Halt) → h ≡ halting.halt_of r at.Forced → Fails r (first_state s a)
        → HaltsIn s allows allows_spent course before given settings h
    unfolding run_from
    forced_halts same settings r h e f = subst (HaltsIn s allows allows_spent course before given settings) (sym e)
        (work_halts s allows allows_spent given settings (first_state s a) (λ st. Runs st Done) r f (subst (λ runs. Follows R rule course before runs course) (sym same) (started R rule course before)))

    left_in : (last : RunState rationals) (P : RunState rationals → Type 0) → IsReached s a (present given) last → AllAllowed (present given) → P last → IsLeftIn R rule course (present given ∷ []) P
    left_in last P h all here = one_run_left R rule (first_state s a) h.start h.begun (present given) last P h.led (allowed h.start (present given) h.begun all) here

    module _ (settings : Settings) where
      run_stopped : (i j : ℕ) (cause : Cause) → TreatmentStops s a (present given) i j cause → HasOneMoreRun before given → AllAllowed (present given)
          → IsHaltedIn R rule course before given settings.budget settings.replays settings.kept (Passed cause (InChoice (Treat i j)))
      run_stopped i j cause h more all =
          one_run_stopped R rule (first_state s a) h.reached.start h.reached.begun h.before before given settings.budget settings.replays settings.kept cause (Treat i j) h.state (more ∙ ap (λ cs. before ++ cs ∷ []) h.choices_are) h.reached.led h.stopped
          (allowed h.reached.start (h.before ++ Treat i j ∷ []) h.reached.begun (subst AllAllowed h.choices_are all))

      stopped_at : (cause : Cause) (place : StopAt) → IsStoppedAt s a (present given) cause place → HasRunsAt before given place → (HasOneMoreRun before given → AllAllowed (present given))
          → IsHaltedIn R rule course before given settings.budget settings.replays settings.kept (Passed cause (place_in_course place))
      unfolding IsHaltedIn
      stopped_at cause at.Forced h runs all = one_run_not_begun R rule (first_state s a) before given cause h runs
      stopped_at cause (at.Treat i j) h runs all = run_stopped i j cause h runs (all runs)

      pub run_halted : (h : Halt) → IsHalted s a given settings h → HasRunsAfter before given h → (HasOneMoreRun before given → AllAllowed (present given)) → (h ≡ halt.Spent → MayBeSpent s a allows_spent (present given))
          → HaltsIn s allows allows_spent course before given settings h
      unfolding IsHaltedIn
      run_halted (halt.Overflow place) h runs all spent = stopped_at Overflow place h runs all
      run_halted (halt.Degree place) h runs all spent = stopped_at Degree place h runs all
      run_halted halt.Spent h runs all spent = (
        present given ∷ [],
        runs,
        left_in h.last (IsSpent R rule) h.reached (all runs) (left_open (leads_of h.last.basis) (pairs_of h.last.listed) h.answered.0, spent refl h.last h.reached),
        h.answered.2,
        h.answered.1,
      )
      run_halted halt.NoLawful h runs all spent = (
        present given ∷ [],
        runs,
        left_in h.last (IsUnlawful R rule (next_kept settings.kept given)) h.reached (all runs) (left_open (leads_of h.last.basis) (pairs_of h.last.listed) h.answered.0, none_lawful h.last (next_kept settings.kept given) h.answered.2),
        h.answered.1,
      )
        where
          none_lawful : (last : RunState rationals) → (next : Option Choice) → IfSome next (λ c. is_lawful (leads_of last.basis) (pairs_of last.listed) c ≡ false) → IfSome next (λ c. R.step last c ≡ Err Unlawful)
          none_lawful last None h = tt
          none_lawful last (Some c) h = unlawful_step rationals rational_inverses s.order (within program s) last c h
      run_halted halt.Memory h runs all spent = tt
