use Rattle.std.proofs.Common.{nat_eq, ap, ◌∙◌}
use Rattle.ore_commands.proofs.ReportLines.{same_budget}
use Rattle.ore_commands.proofs.report_check.is_number.Goals as goal

pub returns : goal.returns
returns c = λ n same. ap (nat_eq c.args.budget) same ∙ same_budget c.args.budget n c.ranges.budget.fits
