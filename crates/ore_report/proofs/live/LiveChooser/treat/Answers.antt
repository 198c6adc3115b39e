use Rattle.std.proofs.Common.{refl, sym, ap, ◌∙◌, subst}
use Rattle.ore_report.specs.ChainRule.{order_shown}
use Rattle.ore_report.specs.Live.{LiveState}
use Rattle.ore_report.specs.Queue.{IsPlace}
use Rattle.ore_report.proofs.Lives.{live_treated}
use Rattle.ore_report.proofs.live.LiveChooser.treat.Goals as goal

pub invariant_of-self-2 : goal.invariant_of-self-2
invariant_of-self-2 c =
    let a = c.self.inside in
    live_treated a.budget a.treated a.given a.shown a.queue c.self.invariant
    c.args.place.now (subst (λ (s : LiveState). IsPlace (order_shown s.shown) s.shown.leads c.args.place.now) (sym c.self.view_is) c.requires.place)
    _ refl refl c.push.new.self (λ e. c.requires.begun (sym (ap (λ (s : LiveState). s.given) c.self.view_is) ∙ e)) c.in_ok-push.ensures.pushed
    (record { places = c.remove.new.self; rows = a.queue.rows }) c.remove.ensures.updates.0 refl refl c.if-self.false
