use Rattle.std.proofs.Common.{sym, ap, ◌∙◌, subst}
use Rattle.ore_rows.specs.Reduction.{leads_of}
use Rattle.ore_groebner.specs.BasisLeads.{BasisLeads}
use Rattle.ore_report.specs.ChainRule.{order_shown}
use Rattle.ore_report.specs.Live.{LiveState}
use Rattle.ore_report.specs.Queue.{IsFirst, IsQueue}
use Rattle.ore_report.proofs.Lives.{live_shown, live_listed, live_entered}
use Rattle.ore_report.proofs.live.LiveChooser.next_place.Goals as goal

pub invariant_of-self : goal.invariant_of-self
invariant_of-self c =
    let a = c.self.inside in
    live_shown a.budget a.treated a.given a.shown a.queue c.self.invariant c.show.new.self c.show.ensures.grown c.show.ensures.order

pub enter-requires : goal.enter-requires
enter-requires c =
    let a = c.self.inside in
    subst (λ o. IsQueue o c.leads.result.now c.args.listed.now a.queue.rows a.queue.places) (sym c.order.ensures)
    (live_listed a.budget a.treated a.given c.show.new.self a.queue
    (live_shown a.budget a.treated a.given a.shown a.queue c.self.invariant c.show.new.self c.show.ensures.grown c.show.ensures.order)
    c.args.listed.now c.args.self.now.given (ap (λ (s : LiveState). s.given) c.self.view_is) c.requires.lists c.leads.result.now
    (ap (λ (s : BasisLeads). s.leads) c.in_ok-show.ensures.shown ∙ sym c.leads.ensures))

pub invariant_of-self-in_err-enter : goal.invariant_of-self-in_err-enter
invariant_of-self-in_err-enter c =
    let a = c.self.inside in
    live_entered a.budget a.treated a.given c.show.new.self a.queue
    (live_shown a.budget a.treated a.given a.shown a.queue c.self.invariant c.show.new.self c.show.ensures.grown c.show.ensures.order)
    c.args.listed.now c.args.self.now.given (ap (λ (s : LiveState). s.given) c.self.view_is) c.requires.lists c.leads.result.now
    (ap (λ (s : BasisLeads). s.leads) c.in_ok-show.ensures.shown ∙ sym c.leads.ensures)
    c.enter.new.self (subst (λ o. IsQueue o c.leads.result.now c.args.listed.now c.enter.new.self.rows c.enter.new.self.places) c.order.ensures c.enter.ensures.queue)

pub invariant_of-self-2 : goal.invariant_of-self-2
invariant_of-self-2 c =
    let a = c.self.inside in
    live_entered a.budget a.treated a.given c.show.new.self a.queue
    (live_shown a.budget a.treated a.given a.shown a.queue c.self.invariant c.show.new.self c.show.ensures.grown c.show.ensures.order)
    c.args.listed.now c.args.self.now.given (ap (λ (s : LiveState). s.given) c.self.view_is) c.requires.lists c.leads.result.now
    (ap (λ (s : BasisLeads). s.leads) c.in_ok-show.ensures.shown ∙ sym c.leads.ensures)
    c.enter.new.self (subst (λ o. IsQueue o c.leads.result.now c.args.listed.now c.enter.new.self.rows c.enter.new.self.places) c.order.ensures c.enter.ensures.queue)

pub returns-clause-first : goal.returns-clause-first
returns-clause-first c =
    subst (λ o. IsFirst o (leads_of c.args.basis.now.items) c.args.listed.now c.first.result) (c.order.ensures ∙ ap order_shown c.in_ok-show.ensures.shown)
    (subst (λ ts. IsFirst c.order.result ts c.args.listed.now c.first.result) c.leads.ensures
    (c.first.ensures c.order.result c.leads.result.now c.args.listed.now c.enter.ensures.queue c.in_ok-enter.ensures.all))
