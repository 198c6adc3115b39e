use Rattle.std.proofs.Common.{◌≡◌, map, length}
use Rattle.std.specs.List.{All, range_with_len}
use Rattle.ore_rational.specs.Field.{rationals}
use Rattle.ore_ring.specs.Belongs.{Belongs}
use Rattle.ore_rows.specs.Rows.{unit_row}
use Rattle.ore_rows.specs.Stored.{HasColumns, sums_of}
use Rattle.ore_rows.proofs.units.identity.Given as goal

abbrev pub invariant-loop-k : goal.invariant-loop-k
invariant-loop-k l = record {
  made : map sums_of l.out.items ≡ map (unit_row rationals l.n) (range_with_len 0 l.k);
  count : length l.out.items ≡ l.k;
  wide : HasColumns l.n l.out.items;
  belongs : All (All (Belongs l.sig)) l.out.items;
}
