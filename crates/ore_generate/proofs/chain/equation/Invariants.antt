use Rattle.std.proofs.Common.{◌≡◌, map, length}
use Rattle.std.specs.List.{range_with_len}
use Rattle.ore_ring.specs.Belongs.{AllBelong}
use Rattle.ore_rows.specs.Stored.{sums_of}
use Rattle.ore_generate.specs.Chain.{entry, signature}
use Rattle.ore_generate.proofs.chain.equation.Given as goal

abbrev pub invariant-loop-k : goal.invariant-loop-k
invariant-loop-k l = record {
  made : sums_of l.entries.items ≡ map (entry l.number l.i) (range_with_len 1 l.k);
  wide : length l.entries.items ≡ l.k;
  belongs : AllBelong signature l.entries.items;
}
