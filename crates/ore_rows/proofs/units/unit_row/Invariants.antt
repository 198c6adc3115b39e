use Rattle.std.proofs.Common.{◌≡◌, map, length}
use Rattle.std.specs.List.{All, range_with_len}
use Rattle.ore_rational.specs.Field.{rationals}
use Rattle.ore_ring.specs.Belongs.{Belongs}
use Rattle.ore_rows.specs.Rows.{unit_entry}
use Rattle.ore_rows.specs.Stored.{sums_of}
use Rattle.ore_rows.proofs.units.unit_row.Given as goal

abbrev pub invariant-loop-k : goal.invariant-loop-k
invariant-loop-k l = record {
  made : sums_of l.out.items ≡ map (unit_entry rationals l.i) (range_with_len 0 l.k);
  wide : length l.out.items ≡ l.k;
  belongs : All (Belongs l.sig) l.out.items;
}
