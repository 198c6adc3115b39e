use Rattle.std.proofs.Common.{◌≡◌, drop, length}
use Rattle.std.specs.List.{All}
use Rattle.ore_algebra.specs.Limits.{program, fronted}
use Rattle.ore_ring.specs.Belongs.{Belongs}
use Rattle.ore_rows.specs.RowsWithin.{scale_within}
use Rattle.ore_rows.specs.Stored.{sums_of}
use Rattle.ore_rows.proofs.row_ops.scale.Given as goal

abbrev pub invariant-loop-g : goal.invariant-loop-g
invariant-loop-g g l = record {
  told : fronted (sums_of l.out.items) (scale_within program (g.R.OreRing.sig l.ring) l.f.sum (sums_of (drop l.g-index l.g-items))) ≡ scale_within program (g.R.OreRing.sig l.ring) l.f.sum (sums_of l.row);
  belongs : All (Belongs (g.R.OreRing.sig l.ring)) l.out.items;
  wide : length l.out.items ≡ l.g-index;
}
