use Rattle.ore_check.proofs.PlanReports.{report_true}
use Rattle.ore_check.proofs.laws.law_report_means.Goals as goal

pub returns : goal.returns
returns c = λ r report. report_true c.args.sig.now r report
