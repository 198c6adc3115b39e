use Rattle.std.proofs.Common.{◌≡◌, take}
use Rattle.ore_syzygy.proofs.copies.steps_copy.Given as goal

abbrev pub invariant-loop-k : goal.invariant-loop-k
invariant-loop-k l = l.out.items ≡ take l.k l.steps
