-- Reports of courses that weren't done: the choices of the runs that were begun, and the stop to which they lead.
--     Reported                why there is no answer: an operation stopped, or the budget was spent
--     StopLine                where: in forced work, in this choice, or where the next one would be chosen
--     Report                  the choices, run by run, with that
--     IsHonestAt, IsHonest    a report is honest for a course
--     IsStopAllowed           a rule allows what the stop line says
--     IsHonestBy              a report is honest by a rule
--     stop_cost               how many treatments a stop line is
--     IsWithinBy, IsWithin    a report is within a budget
--     HasNoReport             no report is honest by a rule and within a budget
use Rattle.std.specs.Prelude.{◌≡◌, ℕ, ◌+◌, ◌≤◌, true, false, List}
use Rattle.std.specs.declared.result.Result.TheVariants.{Err}
use Rattle.ore_algebra.specs.Limits.{Cause}
use Rattle.ore_course.specs.Choices.{Stopped, Runner, cost, treatment_count_in}
use Rattle.ore_course.specs.Course.{Course, Stops}
use Rattle.ore_course.specs.Leading.{Rule, LeadsTo, IsIn, AreAllowedIn}

-- an operation stopped, or the budget of so many treatments was spent
pub data Reported : Type 0 where
  ByStop : Cause → Reported
  ByBudget : ℕ → Reported

-- in forced work, in this choice, or where the next choice would be made
pub data StopLine (C : Type 0) : Type 0 where
  AtForced : StopLine C
  AtChoice : C → StopLine C
  AtBudget : StopLine C

-- why and where a course stopped, with the choices that lead there, run by run
pub record Report (C : Type 0) : Type 0 where
  pub cause : Reported
  pub runs : List (List C)
  pub stop : StopLine C

module _ {S C : Type 0} (R : Runner S C) {X : Type 0} where
  -- the runs are complete and forced work then stops; or the last is in a state where the choice stops; or they have so
  -- many treatments, and the last isn't complete
  unfoldable pub IsHonestAt : Course S X → List (List C) → Reported → StopLine C → Type 0
  IsHonestAt course runs why AtForced = (cause : Cause) × (why ≡ ByStop cause) × LeadsTo R course runs (Stops cause)
  IsHonestAt course runs why (AtChoice c) = (cause : Cause) × (why ≡ ByStop cause) × (st : S) × IsIn R course runs st × (R.step st c ≡ Err (Stopped cause))
  IsHonestAt course runs why AtBudget = (why ≡ ByBudget (treatment_count_in R.is_treatment runs)) × (st : S) × IsIn R course runs st × (R.is_complete st ≡ false)

  -- the choices of the report lead to the stop that it names
  abbrev pub IsHonest : Course S X → Report C → Type 0
  IsHonest course report = IsHonestAt course report.runs report.cause report.stop

  -- at the state to which the runs lead, the rule allows the choice that stops, or that the budget is spent
  unfoldable pub IsStopAllowed : Rule S C → Course S X → List (List C) → StopLine C → Type 0
  IsStopAllowed rule course runs AtForced = Unit {0}
  IsStopAllowed rule course runs (AtChoice c) = (st : S) → IsIn R course runs st → rule.allows st c ≡ true
  IsStopAllowed rule course runs AtBudget = (st : S) → IsIn R course runs st → rule.allows_spent st ≡ true

  -- it is honest, and the rule allows each choice and the stop
  pub record IsHonestBy (rule : Rule S C) (course : Course S X) (report : Report C) : Type 0 where
    pub honest : IsHonest course report
    pub choices : AreAllowedIn R rule course report.runs
    pub stop : IsStopAllowed rule course report.runs report.stop

module _ {S C : Type 0} (R : Runner S C) where
  -- what the choice that stops would have cost
  abbrev pub stop_cost : StopLine C → ℕ
  stop_cost AtForced = 0
  stop_cost (AtChoice c) = cost R.is_treatment c
  stop_cost AtBudget = 0

  -- its budget is this one, or an operation stopped and the budget allows all treatments, with that of the stop
  abbrev pub IsWithinBy : ℕ → Report C → Reported → Type 0
  IsWithinBy budget report (ByStop cause) = treatment_count_in R.is_treatment report.runs + stop_cost report.stop ≤ budget
  IsWithinBy budget report (ByBudget n) = n ≡ budget

  -- the report is within the budget
  abbrev pub IsWithin : ℕ → Report C → Type 0
  IsWithin budget report = IsWithinBy budget report report.cause

  -- no report is honest by the rule and within the budget
  abbrev pub HasNoReport : {X : Type 0} → Rule S C → ℕ → Course S X → Type 0
  HasNoReport rule budget course = (report : Report C) → IsHonestBy R rule course report → IsWithin budget report → ⊥
