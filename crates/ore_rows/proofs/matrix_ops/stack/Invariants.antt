use Rattle.std.proofs.Common.{◌≡◌, ◌∷◌, ◌++◌, drop}
use Rattle.std.specs.List.{All}
use Rattle.ore_ring.specs.Belongs.{Belongs}
use Rattle.ore_rows.specs.Stored.{HasColumns}
use Rattle.ore_rows.proofs.matrix_ops.stack.Given as goal

abbrev pub invariant-loop-row : goal.invariant-loop-row
invariant-loop-row g l = record {
  copied : l.out.items ++ drop l.row-index l.row-items ≡ l.z ∷ l.m.rows;
  belongs : All (All (Belongs (g.R.OreRing.sig l.ring))) l.out.items;
  wide : HasColumns l.m.cols l.out.items;
}
