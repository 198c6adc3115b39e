use Rattle.std.proofs.Common.{refl, sym, subst}
use Rattle.ore_algebra.specs.Free.{empty_sum}
use Rattle.ore_ring.specs.IsGathered.{IsGathered}
use Rattle.ore_ring.proofs.GatherSteps.{gathered_none}
use Rattle.ore_ring.proofs.gather.Gather.new.Goals as goal

pub invariant_of-result : goal.invariant_of-result
invariant_of-result c = subst (IsGathered c.args.order) (sym c.new.ensures.empty) (gathered_none c.args.order)

pub returns : goal.returns
unfolding empty_sum
returns c = rw c.new.ensures.empty refl
