use Rattle.ore_report.proofs.Lives.{live_begun}
use Rattle.ore_report.proofs.live.LiveChooserChooser.start_run.Goals as goal

pub invariant_of-self-2 : goal.invariant_of-self-2
invariant_of-self-2 c =
    let a = c.self.inside in
    live_begun a.budget a.treated a.given a.shown a.queue c.self.invariant c.begin.new.self c.new.result c.new-2.result c.in_ok-begin.ensures.begun (record { places = c.new-2.ensures.places; rows = c.new-2.ensures.rows })
