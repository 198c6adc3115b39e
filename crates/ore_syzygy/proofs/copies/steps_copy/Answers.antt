use Rattle.ore_syzygy.proofs.Loops.{copied_more}
use Rattle.ore_syzygy.proofs.copies.steps_copy.Goals as goal

pub loop-k-preserved : goal.loop-k-preserved
loop-k-preserved c = copied_more c.args.steps.now c.loop-k.out.items _ c.loop-k.k c.get.result.now c.step_copy.result c.loop-k.invariant c.get.ensures c.step_copy.ensures c.in_ok-push.ensures.items
