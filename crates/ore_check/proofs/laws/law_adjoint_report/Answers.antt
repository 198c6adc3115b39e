use Rattle.ore_check.proofs.PlanReports.{adjoint_report}
use Rattle.ore_check.proofs.laws.law_adjoint_report.Goals as goal

pub returns : goal.returns
returns c = λ r report plan. adjoint_report c.args.sig.now r report plan
