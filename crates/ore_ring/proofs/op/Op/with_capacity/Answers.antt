use Rattle.std.proofs.Common.{refl}
use Rattle.ore_algebra.specs.Free.{empty_sum}
use Rattle.ore_ring.proofs.op.Op.with_capacity.Goals as goal

pub returns : goal.returns
unfolding empty_sum
returns c = rw c.in_ok-terms.ensures.items refl
