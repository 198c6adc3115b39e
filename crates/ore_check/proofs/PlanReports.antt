-- Reports of plans.
--     valid_none, none_valid     the check of a report says that it is valid exactly where no line fails
--     report_true                and so exactly where it is honest
--     cause_back, stop_back      what a cause, and a stop, of a report of courses is in a text
--     adjoint_report             the one report of plan adjoint
--     skip_passes                a skipped pair stops nowhere
--     cause_of, cause_same       a reason for courses, as a text has it
--     no_report                  where no text has a report, courses have none
use Rattle.std.proofs.Common.{◌≡◌, ◌↔◌, ℕ, Bool, true, false, cond, List, [], refl, sym, ap, subst}
use Rattle.std.specs.declared.option.Option.{Option}
use Rattle.std.specs.declared.option.Option.TheVariants.{None, Some}
use Rattle.std.specs.declared.result.Result.{Result}
use Rattle.std.specs.declared.result.Result.TheVariants.{Ok, Err}
use Rattle.ore_algebra.specs.Limits.{Cause, program}
use Rattle.ore_algebra.specs.Limits as limits
use Rattle.ore_course.specs.Report.{Reported, ByStop, ByBudget, StopLine, AtForced, AtChoice, AtBudget, IsHonest, IsHonestAt, IsHonestBy, IsWithin, HasNoReport}
use Rattle.ore_course.specs.Report as course
use Rattle.ore_course.specs.Choices.{Refusal, Unlawful, Stopped}
use Rattle.ore_course.specs.Leading.{Rule}
use Rattle.ore_course.specs.Failing.{ReportPlace}
use Rattle.ore_course.proofs.Honesty.{honest_exactly}
use Rattle.ore_course.proofs.OnlyForced.{only_report, its_report}
use Rattle.ore_monomial.specs.Signature.{Signature}
use Rattle.ore_rational.specs.Field.{rationals}
use Rattle.ore_rows.specs.Reduction.{leads_of}
use Rattle.ore_rows.specs.declared.choices.Choice.{Choice}
use Rattle.ore_rows.specs.declared.choices.Choice.TheVariants.{Treat, Skip}
use Rattle.ore_pairs.specs.PairList as pair
use Rattle.ore_pairs.specs.PairList.{pairs_of}
use Rattle.ore_pairs.specs.PairRule.{is_lawful}
use Rattle.ore_pairs.specs.Run.{RunState, entries_with, as_refusal, follow, step}
use Rattle.ore_cert.specs.CourseReport.{reported_as, stop_as, course_report}
use Rattle.ore_cert.specs.declared.report.Cause as declared
use Rattle.ore_cert.specs.declared.report.Cause.TheVariants as cause
use Rattle.ore_cert.specs.declared.report.Plan.{Plan}
use Rattle.ore_cert.specs.declared.report.Plan.TheVariants.{Adjoint}
use Rattle.ore_cert.specs.declared.report.Report.{Report}
use Rattle.ore_cert.specs.declared.report.Stop.{Stop}
use Rattle.ore_cert.specs.declared.report.Stop.TheVariants as stop
use Rattle.ore_blocks.specs.CheckBlock.{RowMatrix}
use Rattle.ore_blocks.specs.KernelCourse.{transposed_adjoint_within}
use Rattle.ore_check.specs.declared.answer.Checked.{Checked as Answer}
use Rattle.ore_check.specs.declared.answer.Checked.TheVariants.{Valid, Invalid}
use Rattle.ore_check.specs.Check.{capped}
use Rattle.ore_check.specs.PlanLaws.{cause_word}
use Rattle.ore_check.specs.Reports.{program_runner, plan_course, IsHonestReport, HasNoReportOf, failing_place, line_of_place, reason_of, check_report}

module _ (s : Signature) (r : RowMatrix) (report : Report) where
  valid_none : check_report s r report ≡ Valid → failing_place s r report ≡ None
  valid_none e = by (failing_place s r report) e
    where
      by : (place : Option (ReportPlace Choice)) → (elim place [ None ↦ Valid | Some place ↦ Invalid (capped (line_of_place report place)) (reason_of place) ]) ≡ Valid → place ≡ None
      by None e = refl
      by (Some place) e = absurd (never e)
        where
          never : {line : ℕ} → ◌≡◌ {A = Answer} (Invalid line (reason_of place)) Valid → ⊥
          never e = cc

  none_valid : failing_place s r report ≡ None → check_report s r report ≡ Valid
  none_valid e = ap (λ place. elim place [ None ↦ Valid | Some place ↦ Invalid (capped (line_of_place report place)) (reason_of place) ]) e

  pub report_true : (check_report s r report ≡ Valid) ↔ IsHonestReport s r report
  report_true =
      let exactly = honest_exactly (program_runner s) (plan_course s report.plan r) (course_report report) in
      (λ e. exactly.0 (valid_none e), λ h. none_valid (exactly.1 h))

-- ---- plan adjoint

cause_back : (why : declared.Cause) (c : Cause) → reported_as why ≡ ByStop c → why ≡ cause_word c
cause_back cause.Overflow limits.Overflow e = refl
cause_back cause.Overflow limits.Degree e = absurd (apart e)
  where
    apart : ◌≡◌ {A = Reported} (ByStop limits.Overflow) (ByStop limits.Degree) → ⊥
    apart e = cc
cause_back cause.Degree limits.Overflow e = absurd (apart e)
  where
    apart : ◌≡◌ {A = Reported} (ByStop limits.Degree) (ByStop limits.Overflow) → ⊥
    apart e = cc
cause_back cause.Degree limits.Degree e = refl
cause_back (cause.Budget n) c e = absurd (apart n c e)
  where
    apart : (n : ℕ) (c : Cause) → ◌≡◌ {A = Reported} (ByBudget n) (ByStop c) → ⊥
    apart n c e = cc

stop_back : (place : Stop) → stop_as place ≡ AtForced → place ≡ stop.Forced
stop_back stop.Forced e = refl
stop_back (stop.Treat i j) e = absurd (apart e)
  where
    apart : {c : Choice} → ◌≡◌ {A = StopLine Choice} (AtChoice c) AtForced → ⊥
    apart e = cc
stop_back stop.Budget e = absurd (apart e)
  where
    apart : ◌≡◌ {A = StopLine Choice} AtBudget AtForced → ⊥
    apart e = cc

cause_there : (c : Cause) → reported_as (cause_word c) ≡ ByStop c
cause_there limits.Overflow = refl
cause_there limits.Degree = refl

module _ (s : Signature) (r : RowMatrix) where
  -- what the one report says of a cause
  abbrev stopped_for : Cause → Report
  stopped_for why = record { cause = cause_word why; plan = Adjoint; runs = []; stop = stop.Forced }

  pub adjoint_report : (report : Report) → report.plan ≡ Adjoint → IsHonestReport s r report ↔ ((why : Cause) × (transposed_adjoint_within program s r ≡ Err why) × (report ≡ stopped_for why))
  adjoint_report report plan = (there, back)
    where
      there : IsHonestReport s r report → (why : Cause) × (transposed_adjoint_within program s r ≡ Err why) × (report ≡ stopped_for why)
      there h =
          let only = only_report (program_runner s) (transposed_adjoint_within program s r) (course_report report)
          (subst (λ p. IsHonest (program_runner s) (plan_course s p r) (course_report report)) plan h) in
          let cause = cause_back report.cause only.0 (ap (λ x. x.cause) only.2) in
          let runs = ap (λ x. x.runs) only.2 in
          let place = stop_back report.stop (ap (λ x. x.stop) only.2) in
          (only.0, only.1, λ i. record { cause = cause i; plan = plan i; runs = runs i; stop = place i })

      back : (why : Cause) × (transposed_adjoint_within program s r ≡ Err why) × (report ≡ stopped_for why) → IsHonestReport s r report
      back (why, stops, same) =
          let own = its_report (program_runner s) (transposed_adjoint_within program s r) why stops in
          let own_cause = subst (λ x. IsHonest (program_runner s) (plan_course s Adjoint r) (record { cause = x; runs = []; stop = AtForced })) (sym (cause_there why)) own in
          subst (λ x. IsHonestReport s r x) (sym same) own_cause

-- ---- where there is no report

-- skipping a pair does no arithmetic
skip_passes : (s : Signature) (st : RunState rationals) (i j via : ℕ) (c : Cause) → (program_runner s).step st (Skip i j via) ≡ Err (Stopped c) → ⊥
unfolding step follow as_refusal
skip_passes s st i j via c e = by (is_lawful (leads_of st.basis) (pairs_of st.listed) (Skip i j via)) e
  where
    by : (lawful : Bool) → ◌≡◌ {A = Result (RunState rationals) Refusal} (cond lawful (Ok (record st { listed = entries_with rationals st (pair.Skip i j via) })) (Err Unlawful)) (Err (Stopped c)) → ⊥
    by true f = cc
    by false f = cc

-- a reason for courses, as a text has it
abbrev cause_of : Reported → declared.Cause
cause_of (ByStop c) = cause_word c
cause_of (ByBudget n) = cause.Budget n

cause_same : (why : Reported) → reported_as (cause_of why) ≡ why
cause_same (ByStop limits.Overflow) = refl
cause_same (ByStop limits.Degree) = refl
cause_same (ByBudget n) = refl

module _ (s : Signature) (rule : Rule (RunState rationals) Choice) (budget : ℕ) (plan : Plan) (r : RowMatrix) (none : HasNoReportOf s rule budget plan r) where
  -- of a report with this stop there is one in a text
  with_stop : (place : Stop) (why : Reported) (runs : List (List Choice)) → IsHonestBy (program_runner s) rule (plan_course s plan r) (record { cause = why; runs = runs; stop = stop_as place })
      → IsWithin (program_runner s) budget (record { cause = why; runs = runs; stop = stop_as place }) → ⊥
  with_stop place why runs honest within =
      let same : ◌≡◌ {A = course.Report Choice} (record { cause = why; runs = runs; stop = stop_as place }) (record { cause = reported_as (cause_of why); runs = runs; stop = stop_as place }) =
      (λ i. record { cause = sym (cause_same why) i; runs = runs; stop = stop_as place }) in
      none (record { cause = cause_of why; plan = plan; runs = runs; stop = place })
      (record { plan_is = refl; honest = subst (IsHonestBy (program_runner s) rule (plan_course s plan r)) same honest; within = subst (IsWithin (program_runner s) budget) same within })

  pub no_report : HasNoReport (program_runner s) rule budget (plan_course s plan r)
  unfolding IsHonestAt
  no_report report honest within = by report.stop honest within
    where
      by : (place : StopLine Choice) → IsHonestBy (program_runner s) rule (plan_course s plan r) (record { cause = report.cause; runs = report.runs; stop = place })
          → IsWithin (program_runner s) budget (record { cause = report.cause; runs = report.runs; stop = place }) → ⊥
      by AtForced h w = with_stop stop.Forced report.cause report.runs h w
      by (AtChoice (Treat i j)) h w = with_stop (stop.Treat i j) report.cause report.runs h w
      by (AtChoice (Skip i j via)) h w = let (why, e, st, here, stops) = h.honest in skip_passes s st i j via why stops
      by AtBudget h w = with_stop stop.Budget report.cause report.runs h w
