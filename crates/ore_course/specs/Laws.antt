-- The laws of courses, for all types of states S, choices C and answers X, and for every runner and rule.
--     FailsNowhereIfHonest               no line of a report fails exactly where it is honest
--     FindsFirstFailing                  the place that is found is the first whose line fails
--     AllowsAllHonest                    honest is honest by the rule that every lawful choice may come
--     ReplayDecidesAnswer, ReplayDecidesHalt    following the course by the choices of a report decides its first failing line
--     FollowedIsFormed, HaltIsReported   what code that follows a course answers, and why it stops
--     AnswersUnlessReported              where there is no report, such code answers, or memory gives out
--     HasOneReport, HasOneAnswer, HasOneEnd    under a strict rule there is one report or one answer, and not both
--     TreatmentsAreBounded               the runs of a course have fewer treatments than some number
--     ReportsHaveFewer, BudgetIsNotSpent    so have those of a course that may stop, and no budget so great is spent
--     HasOnlyReport, HasItsReport        the one report of forced work alone
use Rattle.std.specs.Prelude.{◌≡◌, ◌≢◌, ◌⊎◌, ◌↔◌, ℕ, ◌≤◌, ◌<◌, Bool, true, false, List, [], IfOk, IfErr}
use Rattle.std.specs.declared.option.Option.TheVariants.{None, Some}
use Rattle.std.specs.declared.result.Result.{Result}
use Rattle.std.specs.declared.result.Result.TheVariants.{Ok, Err}
use Rattle.ore_algebra.specs.Limits.{Cause}
use Rattle.ore_course.specs.Choices.{Runner, IsClosed, treatment_count_in}
use Rattle.ore_course.specs.Course.{Course, Done, forced}
use Rattle.ore_course.specs.Leading.{Rule, any_rule, IsFormedWithin}
use Rattle.ore_course.specs.Report.{Report, ByStop, ByBudget, AtForced, IsHonest, IsHonestBy, IsWithin, HasNoReport}
use Rattle.ore_course.specs.Failing.{ReportPlace, first_failing}
use Rattle.ore_course.specs.FirstFailing.{IsFirstFailing}
use Rattle.ore_course.specs.Following.{Halt, Memory, Follows, IsHaltedIn, IsReported}
use Rattle.ore_course.specs.Replaying.{kept_of, replayed, AreFronts}
use Rattle.ore_course.specs.Bounded.{HasFewChoices, AreShort, HasBudget, Extends, IsCourseAtMost, IsStrict}

module _ (S C X : Type 0) where
  -- ---- reports

  -- no line fails exactly where the report is honest
  abbrev pub FailsNowhereIfHonest : Type 0
  FailsNowhereIfHonest = (R : Runner S C) (course : Course S X) (report : Report C) → (first_failing R course report ≡ None) ↔ IsHonest R course report

  -- the place that is found is the one whose line doesn't pass while those before it do
  abbrev pub FindsFirstFailing : Type 0
  FindsFirstFailing = (R : Runner S C) (course : Course S X) (report : Report C) (place : ReportPlace C) → (first_failing R course report ≡ Some place) ↔ IsFirstFailing R course report place

  -- a report is honest exactly where it is so by the rule that every lawful choice may come
  abbrev pub AllowsAllHonest : Type 0
  AllowsAllHonest = (R : Runner S C) (course : Course S X) (report : Report C) → IsHonest R course report ↔ IsHonestBy R (any_rule R) course report

  -- forced work alone has no honest report but this, where it stops
  abbrev pub HasOnlyReport : Type 0
  HasOnlyReport = (R : Runner S C) (r : Result X Cause) (report : Report C) → IsHonest R (forced {X = X} r) report → (cause : Cause) × (r ≡ Err cause) × (report ≡ record { cause = ByStop cause; runs = []; stop = AtForced })

  -- and where it stops, that report is honest
  abbrev pub HasItsReport : Type 0
  HasItsReport = (R : Runner S C) (r : Result X Cause) (cause : Cause) → r ≡ Err cause → IsHonest R (forced {X = X} r) (record { cause = ByStop cause; runs = []; stop = AtForced })

  -- ---- following a course

  -- an answer is formed by the choices given, as the rule allows
  abbrev pub FollowedIsFormed : Type 0
  FollowedIsFormed = (R : Runner S C) (rule : Rule S C) (course : Course S X) (given : List (List C)) (x : X) (budget : ℕ)
      → Follows R rule course [] given (Done x) → treatment_count_in R.is_treatment given ≤ budget → IsFormedWithin R rule budget course given x

  -- a halt that has a report has an honest one, by the rule and within the budget
  abbrev pub HaltIsReported : Type 0
  HaltIsReported = (R : Runner S C) (rule : Rule S C) (course : Course S X) (given : List (List C)) (budget : ℕ) (replays : Bool) (kept : List (List C)) (halt : Halt C)
      → IsHaltedIn R rule course [] given budget replays kept halt → treatment_count_in R.is_treatment given ≤ budget → IsReported R rule course given budget halt

  -- where no report is honest by the rule and within the budget, a call with a live chooser answers, or memory gives out
  abbrev pub AnswersUnlessReported : Type 0
  AnswersUnlessReported = (R : Runner S C) (rule : Rule S C) (course : Course S X) (given : List (List C)) (budget : ℕ) (kept : List (List C)) (result : Result X (Halt C))
      → HasNoReport R rule budget course → treatment_count_in R.is_treatment given ≤ budget → IfOk result (λ x. Follows R rule course [] given (Done x)) → IfErr result (IsHaltedIn R rule course [] given budget false kept)
      → ((x : X) × (result ≡ Ok x) × Follows R rule course [] given (Done x)) ⊎ (result ≡ Err Memory)

  -- the course was followed by the choices that are kept for a report, up to an answer
  abbrev pub ReplayDecidesAnswer : Type 0
  ReplayDecidesAnswer = (R : Runner S C) → IsClosed R → (rule : Rule S C) (course : Course S X) (report : Report C) (given : List (List C)) (x : X)
      → Follows R rule course [] given (Done x) → AreFronts (kept_of report) given → first_failing R course report ≡ replayed R report given None

  -- so it was, up to a halt other than that of memory
  abbrev pub ReplayDecidesHalt : Type 0
  ReplayDecidesHalt = (R : Runner S C) → IsClosed R → (rule : Rule S C) (course : Course S X) (report : Report C) (given : List (List C)) (budget : ℕ) (halt : Halt C)
      → IsHaltedIn R rule course [] given budget true (kept_of report) halt → AreFronts (kept_of report) given → halt ≢ Memory → first_failing R course report ≡ replayed R report given (Some halt)

  -- ---- a rule with one choice

  -- two reports that are honest by the rule and within the budget are one
  abbrev pub HasOneReport : Type 0
  HasOneReport = (R : Runner S C) → IsClosed R → (rule : Rule S C) → IsStrict R rule → (budget : ℕ) (course : Course S X) (r s : Report C)
      → IsHonestBy R rule course r → IsWithin R budget r → IsHonestBy R rule course s → IsWithin R budget s → r ≡ s

  -- two answers, with their runs, are one
  abbrev pub HasOneAnswer : Type 0
  HasOneAnswer = (R : Runner S C) → IsClosed R → (rule : Rule S C) → IsStrict R rule → (budget : ℕ) (course : Course S X) (runs others : List (List C)) (x y : X)
      → IsFormedWithin R rule budget course runs x → IsFormedWithin R rule budget course others y → (runs ≡ others) × (x ≡ y)

  -- where there is an answer, there is no report
  abbrev pub HasOneEnd : Type 0
  HasOneEnd = (R : Runner S C) → IsClosed R → (rule : Rule S C) → IsStrict R rule → (budget : ℕ) (course : Course S X) (runs : List (List C)) (x : X)
      → IsFormedWithin R rule budget course runs x → HasNoReport R rule budget course

  -- ---- budgets

  -- where each state has finitely many choices and each run an end, all runs have fewer treatments than some number
  abbrev pub TreatmentsAreBounded : Type 0
  TreatmentsAreBounded = (R : Runner S C) → HasFewChoices R → (course : Course S X) → AreShort R course → HasBudget R course

  -- a course that may stop has honest reports with fewer treatments than the one that it is at most
  abbrev pub ReportsHaveFewer : Type 0
  ReportsHaveFewer = (R E : Runner S C) → Extends R E → (course exact : Course S X) → IsCourseAtMost course exact → (budget : HasBudget E exact) (report : Report C)
      → IsHonest R course report → treatment_count_in R.is_treatment report.runs < budget.0

  -- and no budget of that number or more is spent
  abbrev pub BudgetIsNotSpent : Type 0
  BudgetIsNotSpent = (R E : Runner S C) → Extends R E → (course exact : Course S X) → IsCourseAtMost course exact → (budget : HasBudget E exact) (report : Report C)
      → IsHonest R course report → (n : ℕ) → report.cause ≡ ByBudget n → n < budget.0
