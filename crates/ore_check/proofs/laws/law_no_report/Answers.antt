use Rattle.ore_check.proofs.PlanReports.{no_report}
use Rattle.ore_check.proofs.laws.law_no_report.Goals as goal

pub returns : goal.returns
returns c = λ rule budget plan r none. no_report c.args.sig.now rule budget plan r none
