use Rattle.std.proofs.Common.{◌≡◌, drop, length}
use Rattle.std.specs.Prelude.{IfSome}
use Rattle.std.specs.List.{All}
use Rattle.ore_algebra.specs.Limits.{program}
use Rattle.ore_ring.specs.Belongs.{Belongs}
use Rattle.ore_rows.specs.Stored.{rows_of, sums_of}
use Rattle.ore_blocks.specs.CheckBlock.{quotient_steps}
use Rattle.ore_blocks.specs.InnerContracts.{remainder_of}
use Rattle.ore_blocks.proofs.steps.quotient_steps.Given as goal

abbrev pub invariant-loop-n : goal.invariant-loop-n
invariant-loop-n g l = record {
  told : quotient_steps program (g.R.OreRing.sig l.ring) (rows_of l.basis) l.n (sums_of (remainder_of l.left l.w)) (drop l.n l.steps) ≡ quotient_steps program (g.R.OreRing.sig l.ring) (rows_of l.basis) 0 (sums_of l.w) l.steps;
  width : IfSome l.left (λ r. length r ≡ l.basis.cols);
  belongs : IfSome l.left (All (Belongs (g.R.OreRing.sig l.ring)));
}
