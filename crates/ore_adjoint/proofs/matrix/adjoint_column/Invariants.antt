use Rattle.std.proofs.Common.{◌≡◌, drop, length, map}
use Rattle.std.specs.List.{All}
use Rattle.ore_algebra.specs.Limits.{program, fronted, map_within}
use Rattle.ore_rational.specs.Field.{rationals}
use Rattle.ore_ring.specs.AdjointWithin.{adjoint_within}
use Rattle.ore_ring.specs.Belongs.{Belongs}
use Rattle.ore_rows.specs.Rows.{column}
use Rattle.ore_rows.specs.Stored.{rows_of, sums_of}
use Rattle.ore_adjoint.specs.AdjointMatrix.{adjoint_column_within}
use Rattle.ore_adjoint.proofs.matrix.adjoint_column.Given as goal

abbrev pub invariant-loop-i : goal.invariant-loop-i
invariant-loop-i g l = record {
  told : fronted (sums_of l.out.items) (map_within (adjoint_within program (g.R.OreRing.sig l.ring)) (column rationals (g.R.OreRing.sig l.ring) l.j (map sums_of (drop l.i l.m.rows)))) ≡ adjoint_column_within program (g.R.OreRing.sig l.ring) l.j (rows_of l.m);
  belongs : All (Belongs (g.R.OreRing.sig l.ring)) l.out.items;
  wide : length l.out.items ≡ l.i;
}
