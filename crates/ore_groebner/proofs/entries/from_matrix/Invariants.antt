use Rattle.std.proofs.Common.{◌≡◌, ◌≤◌, ◌++◌, map, drop}
use Rattle.std.specs.List.{All}
use Rattle.ore_rational.specs.Field.{rationals}
use Rattle.ore_ring.specs.Belongs.{Belongs}
use Rattle.ore_pairs.specs.Run.{from_rows}
use Rattle.ore_rows.specs.Stored.{HasColumns, rows_of, sums_of}
use Rattle.ore_groebner.proofs.entries.from_matrix.Given as goal

abbrev pub invariant-loop-k : goal.invariant-loop-k
invariant-loop-k l = record {
  told : from_rows rationals l.sig.order l.n 0 (rows_of l.a) ≡ map sums_of l.out.items ++ from_rows rationals l.sig.order l.n l.next (drop l.k (rows_of l.a));
  counted : l.next ≤ l.k;
  wide : HasColumns l.n l.out.items;
  of : All (All (Belongs l.sig)) l.out.items;
}
