use Rattle.std.proofs.Common.{◌≡◌}
use Rattle.ore_check.specs.Check.{capped}
use Rattle.ore_commands.specs.ReportAnswers.{line_at}
use Rattle.ore_commands.proofs.report_check.line_at.Given as goal

abbrev pub invariant-loop-n : goal.invariant-loop-n
invariant-loop-n l = l.line ≡ capped (line_at l.runs l.n)
