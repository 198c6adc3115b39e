-- What calls answer that follow a course by the choices of a chooser. Before and after a call the chooser has given some
-- runs. `Follows` is the invariant of such code, and `IsHaltedIn` its answer where it stops.
--     StopAt, Halt               where an operation stopped; why there is no answer
--     report_of                  the report of a halt
--     IsReportable               a halt that has a report
--     Follows                    the choices given since lead from the course to this rest of it
--     IsLeftIn                   some runs lead to a state of the last in which this holds
--     IsStopChoice, IsSpent, IsUnlawful    what holds there when a choice stops, the budget is spent, or no kept choice is lawful
--     IsHaltedIn                 why a call that follows a course has no answer
--     IsReported                 a halt has an honest report
use Rattle.std.specs.Prelude.{◌≡◌, ℕ, Bool, true, false, List, ◌++◌, IfSome}
use Rattle.std.specs.declared.option.Option.{Option}
use Rattle.std.specs.declared.result.Result.TheVariants.{Err}
use Rattle.ore_algebra.specs.Limits.{Cause}
use Rattle.ore_course.specs.Choices.{Unlawful, Stopped, Runner, treatment_count_in, with_choice, without_last, next_kept}
use Rattle.ore_course.specs.Course.{Course, Stops}
use Rattle.ore_course.specs.Leading.{Rule, LeadsTo, IsIn, AreAllowedIn}
use Rattle.ore_course.specs.Report.{ByStop, ByBudget, AtForced, AtChoice, AtBudget, Report, IsHonestBy, IsWithin}

-- in forced work, or in this choice
pub data StopAt (C : Type 0) : Type 0 where
  InForced : StopAt C
  InChoice : C → StopAt C

-- an operation stopped, the budget is spent, the next kept choice is absent or not lawful, or there is no memory
pub data Halt (C : Type 0) : Type 0 where
  Passed : Cause → StopAt C → Halt C
  Spent : Halt C
  NoLawful : Halt C
  Memory : Halt C

module _ {C : Type 0} where
  -- a choice that stopped is the stop, and not one of the choices
  abbrev pub report_of : List (List C) → ℕ → Halt C → Report C
  report_of given budget (Passed cause InForced) = record { cause = ByStop cause; runs = given; stop = AtForced }
  report_of given budget (Passed cause (InChoice c)) = record { cause = ByStop cause; runs = without_last given; stop = AtChoice c }
  report_of given budget Spent = record { cause = ByBudget budget; runs = given; stop = AtBudget }
  report_of given budget NoLawful = record { cause = ByBudget budget; runs = given; stop = AtBudget }
  report_of given budget Memory = record { cause = ByBudget budget; runs = given; stop = AtBudget }

  -- an operation stopped, or the budget is spent
  abbrev pub IsReportable : Halt C → Type 0
  IsReportable (Passed cause place) = Unit {0}
  IsReportable Spent = Unit {0}
  IsReportable NoLawful = ⊥
  IsReportable Memory = ⊥

module _ {S C : Type 0} (R : Runner S C) (rule : Rule S C) {X : Type 0} where
  -- complete runs were given since, as the rule allows, and leave this rest of the course
  pub record Follows (course : Course S X) (before given : List (List C)) (rest : Course S X) : Type 0 where
    pub added : List (List C)
    pub given_is : given ≡ before ++ added
    pub leads : LeadsTo R course added rest
    pub allowed : AreAllowedIn R rule course added

  -- some runs of the course, which the rule allows, lead to a state of the last in which this holds
  pub record IsLeftIn (course : Course S X) (runs : List (List C)) (P : S → Type 0) : Type 0 where
    pub state : S
    pub is_in : IsIn R course runs state
    pub allowed : AreAllowedIn R rule course runs
    pub here : P state

module _ {S C : Type 0} (R : Runner S C) (rule : Rule S C) where
  -- the rule allows the choice, which stops
  abbrev pub IsStopChoice : Cause → C → S → Type 0
  IsStopChoice cause c st = (R.step st c ≡ Err (Stopped cause)) × (rule.allows st c ≡ true)

  -- something is left to choose, and the rule allows that the budget is spent
  abbrev pub IsSpent : S → Type 0
  IsSpent st = (R.is_complete st ≡ false) × (rule.allows_spent st ≡ true)

  -- something is left to choose, and this choice, if there is one, isn't lawful
  abbrev pub IsUnlawful : Option C → S → Type 0
  IsUnlawful next st = (R.is_complete st ≡ false) × IfSome next (λ c. R.step st c ≡ Err Unlawful)

  module _ {X : Type 0} where
    -- forced work stopped; a choice stopped; the budget is spent while something is left; the next kept choice is absent or
    -- not lawful; or nothing is known
    unfoldable pub IsHaltedIn : Course S X → (before given : List (List C)) → (budget : ℕ) → (replays : Bool) → (kept : List (List C)) → Halt C → Type 0
    IsHaltedIn course before given budget replays kept (Passed cause InForced) = Follows R rule course before given (Stops cause)
    IsHaltedIn course before given budget replays kept (Passed cause (InChoice c)) =
        (passed : List (List C)) × (given ≡ before ++ with_choice passed c) × IsLeftIn R rule course passed (IsStopChoice cause c)
    IsHaltedIn course before given budget replays kept Spent =
        (added : List (List C)) × (given ≡ before ++ added) × IsLeftIn R rule course added IsSpent × (treatment_count_in R.is_treatment given ≡ budget) × (replays ≡ false)
    IsHaltedIn course before given budget replays kept NoLawful =
        (added : List (List C)) × (given ≡ before ++ added) × IsLeftIn R rule course added (IsUnlawful (next_kept kept given)) × (replays ≡ true)
    IsHaltedIn course before given budget replays kept Memory = Unit {0}

    -- the report of a halt that has one is honest by the rule and within the budget
    abbrev pub IsReported : Course S X → List (List C) → ℕ → Halt C → Type 0
    IsReported course given budget halt = IsReportable halt → IsHonestBy R rule course (report_of given budget halt) × IsWithin R budget (report_of given budget halt)
