-- Reports of a small course, line by line.
--     Pick, toy        a state is how many picks are left; Take and Pass lead on, Break stops, Wrong isn't lawful
--     two_runs         a run with two picks, forced work, a run with as many picks as this gives
--     answer           the first failing place of a report of it
--     line             the number of its line, where the first run has line 4
use Rattle.std.proofs.Common.{◌≡◌, ℕ, zero, suc, Bool, true, false, List, [], ◌∷◌, refl}
use Rattle.std.specs.declared.option.Option.{Option}
use Rattle.std.specs.declared.option.Option.TheVariants.{None, Some}
use Rattle.std.specs.declared.result.Result.{Result}
use Rattle.std.specs.declared.result.Result.TheVariants.{Ok, Err}
use Rattle.ore_algebra.specs.Limits.{Cause, Overflow, Degree}
use Rattle.ore_course.specs.Choices.{Refusal, Unlawful, Stopped, Runner, cost, treatment_count, treatment_count_in}
use Rattle.ore_course.specs.Course.{Course, ◌>>=◌, forced, run_from}
use Rattle.ore_course.specs.Report.{Reported, ByStop, ByBudget, StopLine, AtForced, AtChoice, AtBudget}
use Rattle.ore_course.specs.Failing.{ReportPlace, OfRun, OfChoice, OfStop, run_lines_before, report_line, is_cause, is_budget, follow_lines, stops_so, is_stopped, stop_passes, failing, first_failing}

data Pick : Type 0 where
  Take : Pick
  Pass : Pick
  Break : Pick
  Wrong : Pick

pick : ℕ → Pick → Result ℕ Refusal
pick zero c = Err Unlawful
pick (suc n) Take = Ok n
pick (suc n) Pass = Ok n
pick (suc n) Break = Err (Stopped Overflow)
pick (suc n) Wrong = Err Unlawful

is_zero : ℕ → Bool
is_zero zero = true
is_zero (suc n) = false

is_take : Pick → Bool
is_take Take = true
is_take Pass = false
is_take Break = true
is_take Wrong = true

toy : Runner ℕ Pick
toy = record { step = pick; is_complete = is_zero; is_treatment = is_take }

two_runs : Result ℕ Cause → Course ℕ ℕ
two_runs work = do
  a ← run_from (Ok 2)
  b ← forced work
  c ← run_from (Ok b)
  forced (Ok 7)

answer : Result ℕ Cause → Reported → List (List Pick) → StopLine Pick → Option (ReportPlace Pick)
unfolding two_runs toy pick is_zero is_take failing follow_lines stop_passes is_stopped stops_so is_cause is_budget cost treatment_count treatment_count_in ◌>>=◌ forced run_from
answer work cause runs stop = first_failing toy (two_runs work) (record { cause = cause; runs = runs; stop = stop })

line : List (List Pick) → ReportPlace Pick → ℕ
unfolding report_line run_lines_before
line runs place = report_line 4 runs place

module _ where
  -- one is taken of two, and the budget is that; a pass costs nothing; another budget; a run that is complete
  budget_spent : answer (Ok 1) (ByBudget 1) ((Take ∷ []) ∷ []) AtBudget ≡ None
  unfolding answer
  budget_spent = refl

  budget_later : answer (Ok 1) (ByBudget 1) ((Take ∷ Pass ∷ []) ∷ [] ∷ []) AtBudget ≡ None
  unfolding answer
  budget_later = refl

  budget_other : answer (Ok 1) (ByBudget 2) ((Take ∷ []) ∷ []) AtBudget ≡ Some OfStop
  unfolding answer
  budget_other = refl

  budget_complete : answer (Ok 1) (ByBudget 2) ((Take ∷ Take ∷ []) ∷ []) AtBudget ≡ Some OfStop
  unfolding answer
  budget_complete = refl

  -- a choice stops; for another cause; it doesn't stop; no run was begun
  choice_stops : answer (Ok 1) (ByStop Overflow) ((Take ∷ []) ∷ []) (AtChoice Break) ≡ None
  unfolding answer
  choice_stops = refl

  choice_cause : answer (Ok 1) (ByStop Degree) ((Take ∷ []) ∷ []) (AtChoice Break) ≡ Some OfStop
  unfolding answer
  choice_cause = refl

  choice_through : answer (Ok 1) (ByStop Overflow) ((Take ∷ []) ∷ []) (AtChoice Take) ≡ Some OfStop
  unfolding answer
  choice_through = refl

  choice_none : answer (Ok 1) (ByStop Overflow) [] (AtChoice Break) ≡ Some OfStop
  unfolding answer
  choice_none = refl

  -- forced work stops after a complete run; it doesn't stop; the run isn't complete
  forced_stops : answer (Err Degree) (ByStop Degree) ((Take ∷ Pass ∷ []) ∷ []) AtForced ≡ None
  unfolding answer
  forced_stops = refl

  forced_through : answer (Ok 1) (ByStop Degree) ((Take ∷ Pass ∷ []) ∷ []) AtForced ≡ Some OfStop
  unfolding answer
  forced_through = refl

  forced_incomplete : answer (Err Degree) (ByStop Degree) ((Take ∷ []) ∷ []) AtForced ≡ Some OfStop
  unfolding answer
  forced_incomplete = refl

  -- a choice that isn't lawful; one after the run is complete
  choice_wrong : answer (Ok 1) (ByBudget 1) ((Take ∷ Wrong ∷ []) ∷ []) AtBudget ≡ Some (OfChoice 0 1 Wrong)
  unfolding answer
  choice_wrong = refl

  choice_past : answer (Ok 1) (ByBudget 3) ((Take ∷ Take ∷ Take ∷ []) ∷ []) AtBudget ≡ Some (OfChoice 0 2 Take)
  unfolding answer
  choice_past = refl

  -- the run before isn't complete; forced work stops before the run; the course has no more runs
  run_incomplete : answer (Ok 1) (ByBudget 1) ((Take ∷ []) ∷ [] ∷ []) AtBudget ≡ Some (OfRun 1)
  unfolding answer
  run_incomplete = refl

  run_stopped : answer (Err Degree) (ByStop Degree) ((Take ∷ Take ∷ []) ∷ [] ∷ []) AtForced ≡ Some (OfRun 1)
  unfolding answer
  run_stopped = refl

  run_past : answer (Ok 1) (ByBudget 3) ((Take ∷ Take ∷ []) ∷ (Take ∷ []) ∷ [] ∷ []) AtBudget ≡ Some (OfRun 2)
  unfolding answer
  run_past = refl

  -- the lines of these places: the first run has line 4, its choices lines 5 and 6, the second run line 7
  line_of_run : line ((Take ∷ Take ∷ []) ∷ (Take ∷ []) ∷ []) (OfRun 1) ≡ 7
  unfolding line
  line_of_run = refl

  line_of_choice : line ((Take ∷ Take ∷ []) ∷ (Take ∷ []) ∷ []) (OfChoice 1 0 Take) ≡ 8
  unfolding line
  line_of_choice = refl

  line_of_stop : line ((Take ∷ Take ∷ []) ∷ (Take ∷ []) ∷ []) OfStop ≡ 9
  unfolding line
  line_of_stop = refl
