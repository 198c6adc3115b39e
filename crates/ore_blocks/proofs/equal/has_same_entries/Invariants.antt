-- The entries up to `k` are the same.
use Rattle.std.proofs.Common.{◌≡◌, take}
use Rattle.ore_blocks.proofs.equal.has_same_entries.Given as goal

abbrev pub invariant-loop-k : goal.invariant-loop-k
invariant-loop-k l = take l.k l.a ≡ take l.k l.b
