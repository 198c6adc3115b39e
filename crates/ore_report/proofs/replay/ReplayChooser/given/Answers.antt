use Rattle.std.proofs.Common.{sym, ap, ◌∙◌}
use Rattle.ore_report.specs.Replay.{given_by}
use Rattle.ore_report.proofs.Replays.{fronts_of-given}
use Rattle.ore_report.proofs.replay.ReplayChooser.given.Goals as goal

pub returns : goal.returns
returns c = let a = c.self.inside in c.runs.ensures ∙ sym (fronts_of-given a.kept a.given c.self.invariant) ∙ ap given_by c.self.view_is
