use Rattle.std.proofs.Common.{take}
use Rattle.ore_ring.specs.Contributions.{AreInRange}
use Rattle.ore_ring.proofs.multiply.are_in_range.Given as goal

abbrev pub invariant-loop-t : goal.invariant-loop-t
invariant-loop-t l = AreInRange (take l.t-index l.ts)
