use Rattle.std.proofs.Common.{◌≡◌, drop, map}
use Rattle.std.specs.List.{All}
use Rattle.ore_algebra.specs.Limits.{program, fronted}
use Rattle.ore_ring.specs.Belongs.{Belongs}
use Rattle.ore_rows.specs.RowsWithin.{matrix_times_within}
use Rattle.ore_rows.specs.Stored.{HasColumns, rows_of, sums_of}
use Rattle.ore_rows.proofs.matrix_ops.times.Given as goal

abbrev pub invariant-loop-row : goal.invariant-loop-row
invariant-loop-row g l = record {
  told : fronted (map sums_of l.out.items) (matrix_times_within program (g.R.OreRing.sig l.ring) l.b.cols (map sums_of (drop l.row-index l.row-items)) (rows_of l.b)) ≡ matrix_times_within program (g.R.OreRing.sig l.ring) l.b.cols (rows_of l.a) (rows_of l.b);
  belongs : All (All (Belongs (g.R.OreRing.sig l.ring))) l.out.items;
  wide : HasColumns l.b.cols l.out.items;
}
