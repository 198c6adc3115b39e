use Rattle.std.proofs.Common.{◌≡◌, drop}
use Rattle.ore_algebra.specs.Limits.{program, fold_within}
use Rattle.ore_ring.specs.Belongs.{Belongs}
use Rattle.ore_rows.specs.RowsWithin.{added_at, dot_within}
use Rattle.ore_rows.specs.Stored.{sums_of, places}
use Rattle.ore_rows.proofs.matrix_ops.dot.Given as goal

abbrev pub invariant-loop-k : goal.invariant-loop-k
invariant-loop-k g l = record {
  told : fold_within (added_at program (g.R.OreRing.sig l.ring) (sums_of l.c) (places l.j l.m.rows)) l.acc.sum (drop l.k-index l.nonzero) ≡ dot_within program (g.R.OreRing.sig l.ring) (sums_of l.c) (places l.j l.m.rows);
  belongs : Belongs (g.R.OreRing.sig l.ring) l.acc;
}
