-- The first line of a report that fails. A line is told by its place, and its number in a text is worked out from that.
--     ReportPlace          that of a run, of a choice in a run, or of the stop line
--     run_lines_before, report_line  how many lines the first k runs have; the number of the line of a place
--     follow_lines         the choices of a run line by line: the state to which they lead, or the place that fails
--     is_over              no run was begun, or the last one is complete
--     is_cause, is_budget  the report says that an operation stopped for this cause; that its budget is so many treatments
--     stops_so             what a choice makes of a state is a stop for the cause of the report
--     is_stopped           the forced work that is left stops for it
--     stop_passes          the stop line passes
--     failing              the first failing place from a run on
--     first_failing        that of the report
use Rattle.std.specs.Prelude.{ℕ, zero, suc, ◌+◌, Bool, true, false, cond, not, ◌&&◌, nat_eq, List, [], ◌∷◌, length}
use Rattle.std.specs.declared.option.Option.{Option}
use Rattle.std.specs.declared.option.Option.TheVariants.{None, Some}
use Rattle.std.specs.declared.result.Result.{Result}
use Rattle.std.specs.declared.result.Result.TheVariants.{Ok, Err}
use Rattle.ore_algebra.specs.Limits.{Cause, Overflow, Degree}
use Rattle.ore_course.specs.Choices.{Refusal, Unlawful, Stopped, Runner, treatment_count_in}
use Rattle.ore_course.specs.Course.{Course, Done, Stops, Runs}
use Rattle.ore_course.specs.Report.{Reported, ByStop, ByBudget, StopLine, AtForced, AtChoice, AtBudget, Report}

-- the line that begins run k, from 0; that of choice n of run k, which is this one; the stop line
pub data ReportPlace (C : Type 0) : Type 0 where
  OfRun : ℕ → ReportPlace C
  OfChoice : ℕ → ℕ → C → ReportPlace C
  OfStop : ReportPlace C

-- how many lines the first k runs have: a run has a line of its own, and one for each choice
unfoldable pub run_lines_before : {C : Type 0} → List (List C) → ℕ → ℕ
run_lines_before [] k = 0
run_lines_before (cs ∷ runs) zero = 0
run_lines_before (cs ∷ runs) (suc k) = suc (length cs) + run_lines_before runs k

-- the number of the line, where that of the first run is given; the stop line stands behind all runs
unfoldable pub report_line : {C : Type 0} → ℕ → List (List C) → ReportPlace C → ℕ
report_line start runs (OfRun k) = start + run_lines_before runs k
report_line start runs (OfChoice k n c) = suc (start + run_lines_before runs k + n)
report_line start runs OfStop = start + run_lines_before runs (length runs)

-- the report says that an operation stopped for this cause
unfoldable pub is_cause : Reported → Cause → Bool
is_cause (ByStop Overflow) Overflow = true
is_cause (ByStop Overflow) Degree = false
is_cause (ByStop Degree) Overflow = false
is_cause (ByStop Degree) Degree = true
is_cause (ByBudget n) cause = false

-- the report says that its budget is so many treatments
unfoldable pub is_budget : Reported → ℕ → Bool
is_budget (ByStop cause) n = false
is_budget (ByBudget m) n = nat_eq m n

module _ {S C : Type 0} (R : Runner S C) where
  -- the choices from number n of run k on
  unfoldable pub follow_lines : ℕ → ℕ → S → List C → Result S (ReportPlace C)
  follow_lines k n st [] = Ok st
  follow_lines k n st (c ∷ cs) = elim (R.step st c) [ Ok next ↦ follow_lines k (suc n) next cs | Err refusal ↦ Err (OfChoice k n c) ]

  -- the next run may begin
  abbrev pub is_over : Option S → Bool
  is_over None = true
  is_over (Some st) = R.is_complete st

  -- what a choice makes of a state is a stop for the cause of the report
  unfoldable pub stops_so : Reported → Result S Refusal → Bool
  stops_so why (Ok next) = false
  stops_so why (Err Unlawful) = false
  stops_so why (Err (Stopped cause)) = is_cause why cause

  module _ {X : Type 0} where
    -- the forced work that is left stops for the cause of the report
    unfoldable pub is_stopped : Reported → Course S X → Bool
    is_stopped why (Done x) = false
    is_stopped why (Stops cause) = is_cause why cause
    is_stopped why (Runs first next) = false

    -- after the last run that was begun, in its state, with this course left and so many treatments
    unfoldable pub stop_passes : Reported → ℕ → Option S → Course S X → StopLine C → Bool
    stop_passes why treated last rest AtForced = is_over last && is_stopped why rest
    stop_passes why treated None rest (AtChoice c) = false
    stop_passes why treated (Some st) rest (AtChoice c) = stops_so why (R.step st c)
    stop_passes why treated None rest AtBudget = false
    stop_passes why treated (Some st) rest AtBudget = not (R.is_complete st) && is_budget why treated

    -- from run k on: the runs that are left, after the state of the run before, with this course left
    unfoldable pub failing : Report C → ℕ → Option S → Course S X → List (List C) → Option (ReportPlace C)
    failing report k last rest [] = cond (stop_passes report.cause (treatment_count_in R.is_treatment report.runs) last rest report.stop) None (Some OfStop)
    failing report k last (Done x) (cs ∷ runs) = Some (OfRun k)
    failing report k last (Stops cause) (cs ∷ runs) = Some (OfRun k)
    failing report k last (Runs first next) (cs ∷ runs) = elim (is_over last) [
      | false ↦ Some (OfRun k)
      | true ↦ elim (follow_lines k 0 first cs) [ Err place ↦ Some place | Ok st ↦ failing report (suc k) (Some st) (next st) runs ]
    ]

    -- the first place of the report that fails
    abbrev pub first_failing : Course S X → Report C → Option (ReportPlace C)
    first_failing course report = failing report 0 None course report.runs
