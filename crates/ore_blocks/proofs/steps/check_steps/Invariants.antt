use Rattle.std.proofs.Common.{◌≡◌, drop, length}
use Rattle.std.specs.List.{All}
use Rattle.ore_algebra.specs.Limits.{program}
use Rattle.ore_ring.specs.Belongs.{Belongs}
use Rattle.ore_rows.specs.Stored.{rows_of, sums_of}
use Rattle.ore_blocks.specs.CheckBlock.{check_steps}
use Rattle.ore_blocks.proofs.steps.check_steps.Given as goal

abbrev pub invariant-loop-n : goal.invariant-loop-n
invariant-loop-n g l = record {
  told : check_steps program (g.R.OreRing.sig l.ring) (rows_of l.basis) l.leads (record { monomial = l.multiple; column = l.column }) l.section l.pair l.n (sums_of l.left) (drop l.n l.steps)
      ≡ check_steps program (g.R.OreRing.sig l.ring) (rows_of l.basis) l.leads (record { monomial = l.multiple; column = l.column }) l.section l.pair 0 (sums_of l.fn.row) l.steps;
  width : length l.left ≡ l.basis.cols;
  belongs : All (Belongs (g.R.OreRing.sig l.ring)) l.left;
}
