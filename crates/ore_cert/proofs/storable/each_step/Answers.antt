use Rattle.ore_cert.specs.Storable.{IsStorableStep}
use Rattle.ore_cert.proofs.StorableParts.{all_more}
use Rattle.ore_cert.proofs.storable.each_step.Goals as goal

pub loop-k-preserved : goal.loop-k-preserved
loop-k-preserved c = all_more IsStorableStep c.args.steps.now c.loop-k.k c.get.result.now c.get.ensures c.step_is_storable.ensures c.loop-k.invariant
