use Rattle.ore_report.proofs.Lives.{live_new}
use Rattle.ore_report.proofs.live.LiveChooser.new.Goals as goal

pub invariant_of-result : goal.invariant_of-result
invariant_of-result c = live_new c.args.budget c.new.result c.new-2.result c.new-3.result c.new.ensures (record { places = c.new-3.ensures.places; rows = c.new-3.ensures.rows })
