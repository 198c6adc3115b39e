use Rattle.std.proofs.Common.{sym, ◌∙◌}
use Rattle.std.proofs.lemmas.Result.{err_from_is_err_and}
use Rattle.ore_monomial.proofs.Stops.{fails_like}
use Rattle.ore_commute.specs.Product.{divided}
use Rattle.ore_commute.proofs.Checked.{mapped_next, mapped_stops, mapped_end}
use Rattle.ore_commute.proofs.terms.Lowering.add_to.Goals as goal

pub returns-in_err-of : goal.returns-in_err-of
returns-in_err-of c =
    let p = err_from_is_err_and c.from_residual.result c.from_residual.ensures.1 in
    rw (p.1, p.2) (fails_like _ _ _ (λ e h. sym c.loop-term.invariant ∙ mapped_stops (divided c.args.self.now.divisor c.args.self.now.factor) c.loop-term.out.items c.args.terms.now c.loop-term.term-index c.term-item.result e c.loop-term-test.true c.term-item.is h) (c.in_err-of.ensures {u = tt}))

pub loop-term-preserved : goal.loop-term-preserved
loop-term-preserved c =
    rw (c.in_ok-push.ensures {u = tt}).items (sym (mapped_next (divided c.args.self.now.divisor c.args.self.now.factor) c.loop-term.out.items c.args.terms.now c.loop-term.term-index c.term-item.result c.in_ok-of.field-0 c.loop-term-test.true c.term-item.is (c.in_ok-of.ensures {u = tt})) ∙ c.loop-term.invariant)

pub returns : goal.returns
returns c = sym c.loop-term.invariant ∙ mapped_end (divided c.args.self.now.divisor c.args.self.now.factor) c.loop-term.out.items c.args.terms.now c.loop-term.term-index c.loop-term-test.false
