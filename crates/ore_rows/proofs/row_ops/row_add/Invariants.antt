use Rattle.std.proofs.Common.{◌≡◌}
use Rattle.std.specs.List.{All}
use Rattle.std.specs.Iterator.Adapters.{zip_first, zip_second}
use Rattle.std.specs.Slice.Iter.{iter_rest}
use Rattle.ore_algebra.specs.Limits.{program, fronted}
use Rattle.ore_ring.specs.Belongs.{Belongs}
use Rattle.ore_rows.specs.RowsWithin.{row_sum_within}
use Rattle.ore_rows.specs.Stored.{sums_of}
use Rattle.ore_rows.proofs.row_ops.row_add.Given as goal

abbrev pub invariant-loop-f : goal.invariant-loop-f
invariant-loop-f g l = record {
  told : fronted (sums_of l.out.items) (row_sum_within program (sums_of (iter_rest (zip_first l.f-iterator))) (sums_of (iter_rest (zip_second l.f-iterator)))) ≡ row_sum_within program (sums_of l.a) (sums_of l.b);
  belongs : All (Belongs (g.R.OreRing.sig l.ring)) l.out.items;
  first_belongs : All (Belongs (g.R.OreRing.sig l.ring)) (iter_rest (zip_first l.f-iterator));
  second_belongs : All (Belongs (g.R.OreRing.sig l.ring)) (iter_rest (zip_second l.f-iterator));
}
