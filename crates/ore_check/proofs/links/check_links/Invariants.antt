use Rattle.std.proofs.Common.{◌≡◌, ◌-◌, ◌≤◌, drop, length}
use Rattle.ore_algebra.specs.Limits.{program}
use Rattle.ore_blocks.specs.CheckBlock.{row_matrix_of}
use Rattle.ore_check.specs.Check.{check_links}
use Rattle.ore_check.specs.InnerContracts.{matrix_before}
use Rattle.ore_check.proofs.links.check_links.Given as goal

abbrev pub invariant-loop-i : goal.invariant-loop-i
invariant-loop-i g l = record {
  told : check_links program (g.R.OreRing.sig l.ring) l.i (row_matrix_of (matrix_before l.r l.links (l.i - 1))) (row_matrix_of (matrix_before l.r l.links l.i)) (drop l.i l.links)
      ≡ check_links program (g.R.OreRing.sig l.ring) 0 (row_matrix_of l.r) (row_matrix_of l.r) l.links;
  fits : 1 ≤ l.i → (matrix_before l.r l.links l.i).cols ≡ length (matrix_before l.r l.links (l.i - 1)).rows;
  few : l.i ≤ length l.links;
}
