use Rattle.std.proofs.Common.{◌≡◌, length}
use Rattle.std.specs.List.{All}
use Rattle.ore_algebra.specs.Limits.{program}
use Rattle.ore_rational.specs.Field.{rationals}
use Rattle.ore_ring.specs.Belongs.{Belongs}
use Rattle.ore_rows.specs.Arithmetic.{within}
use Rattle.ore_rows.specs.Reduction as reduction
use Rattle.ore_rows.specs.Stored.{sums_of}
use Rattle.ore_rows.specs.StoredBasis.{monics}
use Rattle.ore_division.specs.StoredWork.{work_of}
use Rattle.ore_division.proofs.Steps.{row_height}
use Rattle.ore_division.proofs.division.reduce.Given as goal

abbrev pub invariant-loop-step : goal.invariant-loop-step
invariant-loop-step g l = record {
  told : reduction.reduce rationals (g.R.OreRing.sig l.ring).order (within program (g.R.OreRing.sig l.ring)) (monics l.basis) (work_of l.work) ≡ reduction.reduce rationals (g.R.OreRing.sig l.ring).order (within program (g.R.OreRing.sig l.ring)) (monics l.basis) (work_of l.initial.work);
  row_of : All (Belongs (g.R.OreRing.sig l.ring)) l.work.row;
  cofactor_of : All (Belongs (g.R.OreRing.sig l.ring)) l.work.cofactor;
  row_width : length l.work.row ≡ l.basis.cols;
  cofactor_width : length l.work.cofactor ≡ l.basis.width;
}

abbrev pub decreases-loop-step : goal.decreases-loop-step
decreases-loop-step g l = row_height rationals (g.R.OreRing.sig l.ring).order (sums_of l.work.row)
