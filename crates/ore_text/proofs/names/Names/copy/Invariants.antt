use Rattle.std.proofs.Common.{◌≡◌, take}
use Rattle.ore_text.proofs.names.Names.copy.Given as goal

abbrev pub invariant-loop-k : goal.invariant-loop-k
invariant-loop-k l = l.copy ≡ take l.k l.self
