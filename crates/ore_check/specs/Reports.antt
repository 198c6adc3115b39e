-- What the report of a stopped computation says of the matrix r of a problem, and which answers a plan forms. Runs are
-- those within the limits of the program.
--     program_runner         such runs, as courses know them
--     plan_course            a plan, within these limits
--     IsHonestReport         the choices of a report lead, by its plan, to the stop that it names
--     IsReportOf             it is honest by a rule and within a budget, and has this plan
--     HasNoReportOf          there is no such report
--     IsFormedOf             a plan forms an answer by a rule and within a budget
--     failing_place          the first place of a report that fails
--     line_of_place          the number of its line in the text of the report
--     reason_of              the reason with which it fails
--     check_report           the answer of the check of a report
use Rattle.std.specs.Prelude.{◌≡◌, ℕ, List}
use Rattle.std.specs.declared.option.Option.{Option}
use Rattle.std.specs.declared.option.Option.TheVariants.{None, Some}
use Rattle.ore_algebra.specs.Limits.{program}
use Rattle.ore_course.specs.Choices.{Runner}
use Rattle.ore_course.specs.Leading.{Rule, IsFormedWithin}
use Rattle.ore_course.specs.Report.{IsHonest, IsHonestBy, IsWithin}
use Rattle.ore_course.specs.Failing.{ReportPlace, OfRun, OfChoice, OfStop, report_line, first_failing}
use Rattle.ore_rational.specs.Field.{rationals}
use Rattle.ore_monomial.specs.Signature.{Signature}
use Rattle.ore_rows.specs.declared.choices.Choice.{Choice}
use Rattle.ore_rows.specs.declared.choices.Choice.TheVariants.{Treat, Skip}
use Rattle.ore_pairs.specs.Run.{RunState}
use Rattle.ore_pairs.specs.Runner.{runner_within}
use Rattle.ore_cert.specs.CourseReport.{course_report}
use Rattle.ore_cert.specs.declared.report.Plan.{Plan}
use Rattle.ore_cert.specs.declared.report.Report.{Report}
use Rattle.ore_blocks.specs.declared.reason.Reason.{Reason}
use Rattle.ore_blocks.specs.declared.reason.Reason.TheVariants as reason
use Rattle.ore_blocks.specs.CheckBlock.{RowMatrix}
use Rattle.ore_blocks.specs.KernelCourse.{RunCourse}
use Rattle.ore_check.specs.declared.answer.Checked.{Checked as Answer}
use Rattle.ore_check.specs.declared.answer.Checked.TheVariants as answer
use Rattle.ore_check.specs.Check.{capped}
use Rattle.ore_check.specs.Plans.{AnswerOf, course_of}

-- a run, a treated or skipped pair, or the stop
abbrev pub reason_of : ReportPlace Choice → Reason
reason_of (OfRun k) = reason.Run
reason_of (OfChoice k n (Treat i j)) = reason.Treat
reason_of (OfChoice k n (Skip i j via)) = reason.Skip
reason_of OfStop = reason.Stop

-- three lines stand before the first run: those of the format, of the cause and of the plan
abbrev pub line_of_place : Report → ReportPlace Choice → ℕ
line_of_place report place = report_line 4 report.runs place

module _ (s : Signature) where
  -- runs on the rows of matrices over the fractions
  abbrev pub program_runner : Runner (RunState rationals) Choice
  program_runner = runner_within program s

  -- what is done with the matrix, in order
  abbrev pub plan_course : (plan : Plan) → RowMatrix → RunCourse (AnswerOf plan)
  plan_course plan r = course_of program s plan r

  -- ---- reports

  -- the runs are begun and followed, and then the forced work or the choice stops for the cause, or so many pairs were
  -- treated and one is left
  abbrev pub IsHonestReport : RowMatrix → Report → Type 0
  IsHonestReport r report = IsHonest program_runner (plan_course report.plan r) (course_report report)

  -- the rule allows each choice and the stop, and no more pairs are treated than the budget has
  pub record IsReportOf (rule : Rule (RunState rationals) Choice) (budget : ℕ) (plan : Plan) (r : RowMatrix) (report : Report) : Type 0 where
    pub plan_is : report.plan ≡ plan
    pub honest : IsHonestBy program_runner rule (plan_course plan r) (course_report report)
    pub within : IsWithin program_runner budget (course_report report)

  -- whatever the choices
  abbrev pub HasNoReportOf : Rule (RunState rationals) Choice → ℕ → Plan → RowMatrix → Type 0
  HasNoReportOf rule budget plan r = (report : Report) → ¬ IsReportOf rule budget plan r report

  -- ---- answers

  -- complete runs, one for each run of the plan, lead to the answer; the rule allows each choice, and the budget all
  -- treated pairs
  abbrev pub IsFormedOf : Rule (RunState rationals) Choice → ℕ → (plan : Plan) → RowMatrix → AnswerOf plan → Type 0
  IsFormedOf rule budget plan r x = (runs : List (List Choice)) × IsFormedWithin program_runner rule budget (plan_course plan r) runs x

  -- ---- the check of a report

  -- that of its first line that doesn't pass
  abbrev pub failing_place : RowMatrix → Report → Option (ReportPlace Choice)
  failing_place r report = first_failing program_runner (plan_course report.plan r) (course_report report)

  -- valid where no line fails, else the first that does, with its reason; it never stops
  abbrev pub check_report : RowMatrix → Report → Answer
  check_report r report = elim (failing_place r report) [ None ↦ answer.Valid | Some place ↦ answer.Invalid (capped (line_of_place report place)) (reason_of place) ]
