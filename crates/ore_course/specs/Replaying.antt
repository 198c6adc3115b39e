-- A report checked by following its course with a chooser that gives the choices of the report.
--     kept_with, kept_of     the choices that this chooser keeps
--     End, passed_of         how the call ended; of the choices that it gave those that didn't stop
--     stop_decided           the stop line passes, where the choices of the report were all given
--     decided                the first failing place from a run on, by the choices given and how the call ended
--     replayed               that of the report
--     AreFronts              in each run the choices given are the first that are kept
use Rattle.std.specs.Prelude.{◌≡◌, ℕ, suc, Bool, false, cond, List, [], ◌∷◌, length, slice_get}
use Rattle.std.specs.declared.option.Option.{Option}
use Rattle.std.specs.declared.option.Option.TheVariants.{None, Some}
use Rattle.ore_algebra.specs.Lists.{BeginsWith}
use Rattle.ore_course.specs.Choices.{Runner, treatment_count_in, with_choice, without_last}
use Rattle.ore_course.specs.Report.{Reported, StopLine, AtForced, AtChoice, AtBudget, Report}
use Rattle.ore_course.specs.Failing.{ReportPlace, OfRun, OfChoice, OfStop, is_cause, is_budget}
use Rattle.ore_course.specs.Following.{InForced, InChoice, Halt, Passed, Spent, NoLawful, Memory}

-- in an answer, or in this halt
abbrev pub End : Type 0 → Type 0
End C = Option (Halt C)

module _ {C : Type 0} where
  -- the choice of the stop line follows those of the last run, where there is one
  abbrev pub kept_with : List (List C) → StopLine C → List (List C)
  kept_with runs AtForced = runs
  kept_with runs (AtChoice c) = with_choice runs c
  kept_with runs AtBudget = runs

  -- the choices that the chooser keeps for this report
  abbrev pub kept_of : Report C → List (List C)
  kept_of report = kept_with report.runs report.stop

  -- a choice that stopped didn't pass
  abbrev pub passed_of : List (List C) → End C → List (List C)
  passed_of given None = given
  passed_of given (Some (Passed cause InForced)) = given
  passed_of given (Some (Passed cause (InChoice c))) = without_last given
  passed_of given (Some Spent) = given
  passed_of given (Some NoLawful) = given
  passed_of given (Some Memory) = given

  -- forced work stopped for this cause; a choice stopped for it; no choice was left, and the budget is that of all treatments
  abbrev pub stop_decided : Reported → ℕ → StopLine C → End C → Bool
  stop_decided why treated AtForced None = false
  stop_decided why treated AtForced (Some (Passed cause InForced)) = is_cause why cause
  stop_decided why treated AtForced (Some (Passed cause (InChoice c))) = false
  stop_decided why treated AtForced (Some Spent) = false
  stop_decided why treated AtForced (Some NoLawful) = false
  stop_decided why treated AtForced (Some Memory) = false
  stop_decided why treated (AtChoice d) None = false
  stop_decided why treated (AtChoice d) (Some (Passed cause InForced)) = false
  stop_decided why treated (AtChoice d) (Some (Passed cause (InChoice c))) = is_cause why cause
  stop_decided why treated (AtChoice d) (Some Spent) = false
  stop_decided why treated (AtChoice d) (Some NoLawful) = false
  stop_decided why treated (AtChoice d) (Some Memory) = false
  stop_decided why treated AtBudget None = false
  stop_decided why treated AtBudget (Some (Passed cause place)) = false
  stop_decided why treated AtBudget (Some Spent) = false
  stop_decided why treated AtBudget (Some NoLawful) = is_budget why treated
  stop_decided why treated AtBudget (Some Memory) = false

  -- in each run the choices given are the first that are kept, and none where no run is kept
  unfoldable pub AreFronts : List (List C) → List (List C) → Type 0
  AreFronts kept [] = Unit {0}
  AreFronts [] (gs ∷ given) = (gs ≡ []) × AreFronts [] given
  AreFronts (ks ∷ kept) (gs ∷ given) = BeginsWith ks gs × AreFronts kept given

module _ {S C : Type 0} (R : Runner S C) where
  -- run by run, a line fails where fewer choices passed than are listed; where no run was begun; where one more was begun
  unfoldable pub decided : Report C → End C → ℕ → List (List C) → List (List C) → Option (ReportPlace C)
  decided report end k [] [] = cond (stop_decided report.cause (treatment_count_in R.is_treatment report.runs) report.stop end) None (Some OfStop)
  decided report end k (gs ∷ passed) [] = Some OfStop
  decided report end k [] (cs ∷ runs) = Some (OfRun k)
  decided report end k (gs ∷ passed) (cs ∷ runs) = elim (slice_get cs (length gs)) [ Some c ↦ Some (OfChoice k (length gs) c) | None ↦ decided report end (suc k) passed runs ]

  -- the first failing place of the report, by lengths alone
  abbrev pub replayed : Report C → List (List C) → End C → Option (ReportPlace C)
  replayed report given end = decided report end 0 (passed_of given end) report.runs
