use Rattle.std.proofs.Common.{◌≡◌, take, length}
use Rattle.std.specs.List.{All}
use Rattle.ore_rational.specs.Field.{rationals}
use Rattle.ore_ring.specs.Belongs.{Belongs}
use Rattle.ore_rows.specs.ReduceRows.{negated}
use Rattle.ore_rows.specs.Stored.{sums_of}
use Rattle.ore_inverse.proofs.reductions.negated.Given as goal

abbrev pub invariant-loop-k : goal.invariant-loop-k
invariant-loop-k g l = record {
  opposites : sums_of l.out.items ≡ negated rationals (sums_of (take l.k l.row));
  count : length l.out.items ≡ l.k;
  belongs : All (Belongs (g.R.OreRing.sig l.ring)) l.out.items;
}
