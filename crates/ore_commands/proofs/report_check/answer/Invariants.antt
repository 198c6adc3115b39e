use Rattle.ore_commands.specs.ReportAnswers.{end_of}
use Rattle.ore_commands.proofs.Replays.{IsReplayedFrom}
use Rattle.ore_commands.proofs.report_check.answer.Given as goal

abbrev pub invariant-loop-k : goal.invariant-loop-k
invariant-loop-k l = IsReplayedFrom l.report l.given (end_of l.end) l.k
