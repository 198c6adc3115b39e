use Rattle.std.proofs.Common.{◌≡◌, take}
use Rattle.ore_problem.proofs.frame.kinds_of.Given as goal

abbrev pub invariant-loop-k : goal.invariant-loop-k
invariant-loop-k l = l.kinds.items ≡ take l.k l.signature.kinds
