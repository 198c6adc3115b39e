use Rattle.std.proofs.Common.{◌≡◌, map}
use Rattle.std.specs.List.{All, range_with_len}
use Rattle.ore_ring.specs.Belongs.{AllBelong}
use Rattle.ore_rows.specs.Stored.{HasColumns, sums_of}
use Rattle.ore_generate.specs.Chain.{equation, signature}
use Rattle.ore_generate.proofs.chain.equations.Given as goal

abbrev pub invariant-loop-k : goal.invariant-loop-k
invariant-loop-k l = record {
  made : map sums_of l.rows.items ≡ map (equation l.number) (range_with_len 1 l.k);
  wide : HasColumns 41 l.rows.items;
  belongs : All (AllBelong signature) l.rows.items;
}
