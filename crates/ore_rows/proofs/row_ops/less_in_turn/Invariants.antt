use Rattle.std.proofs.Common.{◌≡◌, length, take, drop}
use Rattle.std.specs.List.{All}
use Rattle.ore_algebra.specs.Limits.{program, fronted}
use Rattle.ore_ring.specs.Belongs.{Belongs}
use Rattle.ore_rows.specs.RowsWithin.{in_turn}
use Rattle.ore_rows.specs.Stored.{sums_of}
use Rattle.ore_rows.proofs.row_ops.less_in_turn.Given as goal

abbrev pub invariant-loop-k : goal.invariant-loop-k
invariant-loop-k g l = record {
  told : fronted (sums_of (take l.k l.entries.items)) (in_turn program (g.R.OreRing.sig l.ring) l.f.sum (sums_of (drop l.k l.entries.items)) (sums_of (drop l.k l.other))) ≡ in_turn program (g.R.OreRing.sig l.ring) l.f.sum (sums_of l.fn.row) (sums_of l.other);
  belongs : All (Belongs (g.R.OreRing.sig l.ring)) l.entries.items;
  wide : length l.entries.items ≡ length l.fn.row;
}
