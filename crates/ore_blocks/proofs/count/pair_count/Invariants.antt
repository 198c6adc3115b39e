use Rattle.std.proofs.Common.{◌≡◌, ℕ, ◌-◌, ◌*◌, ◌^◌, ◌≤◌, drop, length, nat_eq}
use Rattle.std.specs.List.{count_by}
use Rattle.ore_pairs.specs.PairList.{pair_count}
use Rattle.ore_blocks.specs.InnerContracts.{count_at}
use Rattle.ore_blocks.proofs.count.pair_count.Given as goal

abbrev pub invariant-loop-k : goal.invariant-loop-k
invariant-loop-k l = record {
  told : l.pairs ≡ pair_count (drop (length l.leads - l.k) l.leads);
  counted : (column : ℕ) → count_at l.counts column ≡ count_by (λ u. nat_eq u.column column) (drop (length l.leads - l.k) l.leads);
  few : l.pairs ≤ l.k * 2 ^ 64;
}
