use Rattle.std.proofs.Common.{◌<◌, length, arith}
use Rattle.ore_ring.proofs.Negated.{negated_more}
use Rattle.ore_ring.proofs.op.negate.Goals as goal

pub loop-term-preserved : goal.loop-term-preserved
loop-term-preserved c =
    let below : c.loop-term.term-index < length c.args.terms.now.items = omega (arith, c.loop-term-test.true) in
    negated_more c.loop-term.term-items c.args.terms.now.items c.loop-term.term-index c.term-item.result c.neg-term.result c.loop-term.invariant below c.neg-term.ensures
