use Rattle.std.proofs.Common.{sym, subst}
use Rattle.ore_course.specs.Replaying.{AreFronts}
use Rattle.ore_report.proofs.Replays.{fronts_none}
use Rattle.ore_report.proofs.replay.ReplayChooser.new.Goals as goal

pub invariant_of-result : goal.invariant_of-result
invariant_of-result c = subst (AreFronts c.keep_stop.new.kept) (sym c.new.ensures) (fronts_none c.keep_stop.new.kept)
