-- Laws of plans and of reports, for the matrix r of a problem and within the limits of the program.
--     ReportIsTrueIfValid        the check of a report says that it is valid exactly where it is honest
--     cause_word                 a cause as a report names it
--     AdjointHasItsReport        plan adjoint has one honest report where the transposed adjoint stops, and else none
--     NoReportIsNone             where a text has no report, courses have none
--     IsCorrect                  a certificate is of the signature, valid, true, and one that the check accepts
--     FormsCorrect               a course forms such certificates alone
--     ResolveFormsRight, ExtFormsRight     so do the plans resolve and ext
use Rattle.std.specs.Prelude.{◌≡◌, ◌↔◌, ℕ, List, []}
use Rattle.std.specs.declared.result.Result.TheVariants.{Ok, Err}
use Rattle.ore_algebra.specs.Limits.{Cause, program}
use Rattle.ore_algebra.specs.Limits as limits
use Rattle.ore_course.specs.Leading.{Rule, IsFormedBy}
use Rattle.ore_course.specs.Report.{HasNoReport}
use Rattle.ore_rational.specs.Field.{rationals}
use Rattle.ore_monomial.specs.Signature.{Signature}
use Rattle.ore_rows.specs.Rows.{AreLong}
use Rattle.ore_rows.specs.declared.choices.Choice.{Choice}
use Rattle.ore_pairs.specs.Run.{RunState}
use Rattle.ore_cert.specs.CertificateOf.{IsCertificateOf}
use Rattle.ore_cert.specs.EachKind.{IsLength}
use Rattle.ore_cert.specs.declared.certificate.Certificate.{Certificate}
use Rattle.ore_cert.specs.declared.certificate.Certificate.TheVariants.{Halted}
use Rattle.ore_cert.specs.declared.report.Cause as declared
use Rattle.ore_cert.specs.declared.report.Cause.TheVariants as cause
use Rattle.ore_cert.specs.declared.report.Plan.{Plan}
use Rattle.ore_cert.specs.declared.report.Plan.TheVariants.{Adjoint}
use Rattle.ore_cert.specs.declared.report.Report.{Report}
use Rattle.ore_cert.specs.declared.report.Stop.TheVariants.{Forced}
use Rattle.ore_blocks.specs.CheckBlock.{RowMatrix}
use Rattle.ore_blocks.specs.KernelCourse.{RunCourse, transposed_adjoint_within}
use Rattle.ore_check.specs.declared.answer.Checked.TheVariants.{Valid}
use Rattle.ore_check.specs.Check.{check, IsNoReport}
use Rattle.ore_check.specs.Meaning.{RowsOf, Means}
use Rattle.ore_check.specs.Plans.{resolve, ext}
use Rattle.ore_check.specs.Reports.{program_runner, plan_course, IsHonestReport, HasNoReportOf, check_report}
use Rattle.ore_check.specs.Valid.{IsValid}

-- as a report names it
abbrev pub cause_word : Cause → declared.Cause
cause_word limits.Overflow = cause.Overflow
cause_word limits.Degree = cause.Degree

module _ (s : Signature) where
  -- no line fails exactly where the report is honest
  abbrev pub ReportIsTrueIfValid : Type 0
  ReportIsTrueIfValid = (r : RowMatrix) (report : Report) → (check_report s r report ≡ Valid) ↔ Means s r (Halted report)

  -- a report of plan adjoint is honest exactly where forming the transposed adjoint stops, and it says just that
  abbrev pub AdjointHasItsReport : Type 0
  AdjointHasItsReport = (r : RowMatrix) (report : Report) → report.plan ≡ Adjoint
      → IsHonestReport s r report ↔ ((why : Cause) × (transposed_adjoint_within program s r ≡ Err why) × (report ≡ record { cause = cause_word why; plan = Adjoint; runs = []; stop = Forced }))

  -- where no report of a text is honest by the rule and within the budget, none of courses is
  abbrev pub NoReportIsNone : Type 0
  NoReportIsNone = (rule : Rule (RunState rationals) Choice) (budget : ℕ) (plan : Plan) (r : RowMatrix) → HasNoReportOf s rule budget plan r → HasNoReport (program_runner s) rule budget (plan_course s plan r)

  -- its parts are of the signature, its sizes, identities and blocks are right, what it says is true, and its check
  -- finds nothing that fails or stops
  pub record IsCorrect (r : RowMatrix) (c : Certificate) : Type 0 where
    pub of : IsCertificateOf s c
    pub valid : IsValid s r c
    pub means : Means s r c
    pub accepted : (claims : IsNoReport c) → check program s r c claims ≡ Ok tt

  -- whatever the choices, each certificate that comes is right
  abbrev pub FormsCorrect : (RowMatrix → RunCourse Certificate) → Type 0
  FormsCorrect course = (r : RowMatrix) → AreLong rationals r.cols r.rows → RowsOf s r.rows → (runs : List (List Choice)) (c : Certificate) → IsFormedBy (program_runner s) (course r) runs c → IsCorrect r c

  -- of from 1 to 12 links
  abbrev pub ResolveFormsRight : Type 0
  ResolveFormsRight = (k : ℕ) → IsLength k → FormsCorrect (resolve program s k)

  -- of an extension module from 1 to 12
  abbrev pub ExtFormsRight : Type 0
  ExtFormsRight = (k : ℕ) → IsLength k → FormsCorrect (ext program s k)
