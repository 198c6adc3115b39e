use Rattle.ore_speed.proofs.DeclaredOnly.{zero_belongs}
use Rattle.ore_speed.proofs.dense.dense.Goals as goal

pub loop-place-init : goal.loop-place-init
loop-place-init c = zero_belongs c.signature-signature.result.now c.order.result c.zero-made.result c.order.ensures c.zero-made.ensures
