-- The rows up to `k` are the same.
use Rattle.std.proofs.Common.{◌≡◌, take}
use Rattle.ore_blocks.proofs.equal.has_same_rows.Given as goal

abbrev pub invariant-loop-k : goal.invariant-loop-k
invariant-loop-k l = take l.k l.a.rows ≡ take l.k l.b.rows
