use Rattle.std.proofs.Common.{◌≡◌, ◌+◌, ◌≤◌, drop}
use Rattle.ore_pairs.specs.PairList.{treated_count}
use Rattle.ore_blocks.specs.CheckBlock.{dealt_pairs}
use Rattle.ore_blocks.proofs.pairs.treated_count.Given as goal

abbrev pub invariant-loop-k : goal.invariant-loop-k
invariant-loop-k l = record {
  told : l.treated + treated_count (dealt_pairs (drop l.k l.pairs)) ≡ treated_count (dealt_pairs l.pairs);
  few : l.treated ≤ l.k;
}
