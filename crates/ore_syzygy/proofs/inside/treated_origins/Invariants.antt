use Rattle.std.proofs.Common.{◌≡◌, ◌++◌, ℕ, drop}
use Rattle.ore_pairs.specs.RunBlocks.{pair_origins}
use Rattle.ore_groebner.specs.RunProgress.{entries_from}
use Rattle.ore_syzygy.proofs.inside.treated_origins.Given as goal

abbrev pub invariant-loop-k : goal.invariant-loop-k
invariant-loop-k l = (n : ℕ) → pair_origins 0 (entries_from n l.events) ≡ l.out.items ++ pair_origins l.k (entries_from n (drop l.k l.events))
