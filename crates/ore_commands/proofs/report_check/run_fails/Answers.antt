use Rattle.ore_commands.proofs.ReportLines.{run_line}
use Rattle.ore_commands.proofs.report_check.run_fails.Goals as goal

pub returns : goal.returns
returns c = run_line c.args.report.now c.args.k c.line_at.result c.line_at.ensures
