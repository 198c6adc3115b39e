use Rattle.std.proofs.Common.{◌+◌, ◌-◌, ◌/◌, sym, ◌∙◌, arith}
use Rattle.ore_ring.proofs.Splice.{over_to, not_over_from}
use Rattle.ore_ring.proofs.place.place_among.Goals as goal

pub loop-low-preserved-in-Less : goal.loop-low-preserved-in-Less
loop-low-preserved-in-Less c =
    let v = c.loop-low.invariant in
    record {
      between = omega arith;
      within = v.within;
      over = over_to c.args.order c.args.exps.now c.args.terms.now (c.loop-low.low + (c.loop-low.high - c.loop-low.low) / 2) c.index-terms-middle.result c.requires.falls (omega arith) c.index-terms-middle.is (sym c.in-Less.is ∙ c.compare.ensures);
      rest = v.rest;
    }

pub loop-low-preserved : goal.loop-low-preserved
loop-low-preserved c =
    let v = c.loop-low.invariant in
    record {
      between = omega arith;
      within = omega arith;
      over = v.over;
      rest = not_over_from c.args.order c.args.exps.now c.args.terms.now (c.loop-low.low + (c.loop-low.high - c.loop-low.low) / 2) c.index-terms-middle.result c.requires.falls (omega arith) c.index-terms-middle.is (λ e. c.in_default.not-Less (c.compare.ensures ∙ e));
    }
