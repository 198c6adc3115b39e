use Rattle.ore_parts.specs.BlockText.{step_text}
use Rattle.ore_parts.proofs.PrintedItems.{printed_more}
use Rattle.ore_parts.proofs.print_block.append_steps.Goals as goal

pub loop-k-preserved : goal.loop-k-preserved
loop-k-preserved c = printed_more (step_text c.args.algebra.now.names.now c.args.algebra.now.signature.now.order) c.args.steps.now c.loop-k.k c.get.result.now c.args.out.now.items c.loop-k.out.items c.append_step.new.out.items c.get.ensures (c.in_ok-append_step.ensures {u = tt}) c.loop-k.invariant
