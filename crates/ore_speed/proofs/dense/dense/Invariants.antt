use Rattle.ore_ring.specs.Belongs.{Belongs}
use Rattle.ore_speed.proofs.dense.dense.Given as goal

abbrev pub invariant-loop-place : goal.invariant-loop-place
invariant-loop-place l = Belongs l.signature l.made
