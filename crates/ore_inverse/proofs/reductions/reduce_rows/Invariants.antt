use Rattle.std.proofs.Common.{◌≡◌, drop, map}
use Rattle.std.specs.List.{All}
use Rattle.ore_algebra.specs.Limits.{program}
use Rattle.ore_rational.specs.Field.{rationals}
use Rattle.ore_ring.specs.Belongs.{Belongs}
use Rattle.ore_rows.specs.Arithmetic.{within}
use Rattle.ore_rows.specs.ReduceRows.{reduce_rows, reduce_rows_from}
use Rattle.ore_rows.specs.Stored.{HasColumns, rows_of, sums_of}
use Rattle.ore_rows.specs.StoredBasis.{monics}
use Rattle.ore_inverse.proofs.reductions.reduce_rows.Given as goal

abbrev pub invariant-loop-k : goal.invariant-loop-k
invariant-loop-k g l = record {
  told : reduce_rows_from rationals (g.R.OreRing.sig l.ring).order (within program (g.R.OreRing.sig l.ring)) l.basis.width (monics l.basis) l.k (map sums_of l.out.items) (drop l.k (rows_of l.rows))
      ≡ reduce_rows rationals (g.R.OreRing.sig l.ring).order (within program (g.R.OreRing.sig l.ring)) l.basis.width (monics l.basis) (rows_of l.rows);
  belongs : All (All (Belongs (g.R.OreRing.sig l.ring))) l.out.items;
  wide : HasColumns l.basis.width l.out.items;
}
