use Rattle.std.proofs.Common.{ap, ◌∙◌}
use Rattle.ore_check.specs.Check.{capped}
use Rattle.ore_commands.specs.ReportAnswers.{line_at}
use Rattle.ore_commands.proofs.ReportLines.{stop_line}
use Rattle.ore_commands.proofs.report_check.stop_fails.Goals as goal

pub returns : goal.returns
returns c = stop_line c.args.report.now c.line_at.result (c.line_at.ensures ∙ ap (λ n. capped (line_at c.args.report.now.runs n)) c.len.ensures.count)
