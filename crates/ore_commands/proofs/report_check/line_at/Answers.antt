use Rattle.std.proofs.Common.{◌+◌, min, ap, ◌∙◌}
use Rattle.ore_commands.proofs.ReportLines.{line_start, line_step}
use Rattle.ore_commands.proofs.report_check.line_at.Goals as goal

pub loop-n-init : goal.loop-n-init
loop-n-init c = line_start c.args.runs.now

pub loop-n-preserved : goal.loop-n-preserved
loop-n-preserved c =
    c.saturating_add-line.ensures ∙ ap (λ m. min (c.loop-n.line + (m + 1)) 18446744073709551615) c.len.ensures.count
    ∙ line_step c.args.runs.now c.loop-n.n c.get.result.now c.get.ensures c.loop-n.line c.loop-n.invariant
