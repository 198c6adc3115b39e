use Rattle.std.proofs.Common.{◌≡◌, drop, length}
use Rattle.std.specs.List.{All}
use Rattle.ore_algebra.specs.Limits.{program}
use Rattle.ore_ring.specs.Belongs.{Belongs}
use Rattle.ore_rows.specs.Stored.{rows_of, sums_of}
use Rattle.ore_blocks.specs.PlaceConditions.{less_steps}
use Rattle.ore_blocks.proofs.formed.less_steps.Given as goal

abbrev pub invariant-loop-k : goal.invariant-loop-k
invariant-loop-k g l = record {
  told : less_steps program (g.R.OreRing.sig l.ring) (rows_of l.m) (drop l.k l.steps) (sums_of l.left) ≡ less_steps program (g.R.OreRing.sig l.ring) (rows_of l.m) l.steps (sums_of l.fn.row);
  width : length l.left ≡ l.m.cols;
  belongs : All (Belongs (g.R.OreRing.sig l.ring)) l.left;
}
