use Rattle.std.proofs.Common.{◌≡◌, ◌-◌, length}
use Rattle.std.specs.List.{All}
use Rattle.ore_algebra.specs.Limits.{program, fronted}
use Rattle.ore_ring.specs.Belongs.{Belongs}
use Rattle.ore_rows.specs.RowsWithin.{combine_from, combine_within}
use Rattle.ore_rows.specs.Stored.{rows_of, sums_of}
use Rattle.ore_rows.proofs.matrix_ops.combine.Given as goal

abbrev pub invariant-loop-j : goal.invariant-loop-j
invariant-loop-j g l = record {
  told : fronted (sums_of l.out.items) (combine_from program (g.R.OreRing.sig l.ring) l.j (l.j-end - l.j) (sums_of l.c) (rows_of l.m)) ≡ combine_within program (g.R.OreRing.sig l.ring) l.m.cols (sums_of l.c) (rows_of l.m);
  belongs : All (Belongs (g.R.OreRing.sig l.ring)) l.out.items;
  wide : length l.out.items ≡ l.j;
}
