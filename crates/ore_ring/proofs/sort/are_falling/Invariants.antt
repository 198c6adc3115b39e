use Rattle.std.proofs.Common.{take}
use Rattle.ore_ring.specs.Terms.{IsFalling}
use Rattle.ore_ring.specs.Contributions.{AreInRange}
use Rattle.ore_ring.proofs.sort.are_falling.Given as goal

abbrev pub invariant-loop-k : goal.invariant-loop-k
invariant-loop-k l = record {
  falls : IsFalling l.order (take l.k l.terms);
  range : AreInRange (take l.k l.terms);
}
