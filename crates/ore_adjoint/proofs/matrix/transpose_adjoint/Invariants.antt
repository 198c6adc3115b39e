use Rattle.std.proofs.Common.{◌≡◌, ◌-◌, length, map}
use Rattle.std.specs.List.{All, range_with_len}
use Rattle.ore_algebra.specs.Limits.{program, fronted, map_within}
use Rattle.ore_ring.specs.Belongs.{Belongs}
use Rattle.ore_rows.specs.Stored.{HasColumns, rows_of, sums_of}
use Rattle.ore_adjoint.specs.AdjointMatrix.{adjoint_column_within, transpose_adjoint_within}
use Rattle.ore_adjoint.proofs.matrix.transpose_adjoint.Given as goal

abbrev pub invariant-loop-j : goal.invariant-loop-j
invariant-loop-j g l = record {
  told : fronted (map sums_of l.out.items) (map_within (λ j. adjoint_column_within program (g.R.OreRing.sig l.ring) j (rows_of l.m)) (range_with_len l.j (l.m.cols - l.j))) ≡ transpose_adjoint_within program (g.R.OreRing.sig l.ring) l.m.cols (rows_of l.m);
  belongs : All (All (Belongs (g.R.OreRing.sig l.ring))) l.out.items;
  wide : HasColumns (length l.m.rows) l.out.items;
  count : length l.out.items ≡ l.j;
}
