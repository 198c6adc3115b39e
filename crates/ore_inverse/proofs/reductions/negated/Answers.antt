use Rattle.std.proofs.Common.{rules}
use Rattle.ore_ring.specs.Within.{opposite}
use Rattle.ore_inverse.proofs.ReducedInOrder.{summed_more}
use Rattle.ore_inverse.proofs.reductions.negated.Goals as goal

pub loop-k-preserved : goal.loop-k-preserved
unfolding opposite
loop-k-preserved g c = record {
  opposites = summed_more opposite c.args.row.now c.loop-k.out.items _ c.loop-k.k c.entry.result.now _ c.loop-k.invariant.opposites c.entry.ensures c.in_ok-opposite.ensures.value c.in_ok-push.ensures.items;
  count = search rules;
  belongs = search rules;
}
