use Rattle.std.proofs.Common.{◌≡◌, ◌≤◌, length, drop}
use Rattle.ore_algebra.specs.Limits.{program}
use Rattle.ore_rational.specs.Field.{rationals, rational_inverses}
use Rattle.ore_rows.specs.Arithmetic.{within}
use Rattle.ore_pairs.specs.Run as run
use Rattle.ore_rows.specs.Stored.{rows_of}
use Rattle.ore_groebner.specs.RunProgress.{run_state, IsBegun, IsProgressOf}
use Rattle.ore_groebner.proofs.first.begin.Given as goal

abbrev pub invariant-loop-k : goal.invariant-loop-k
invariant-loop-k g l = record {
  told : run.begin rationals rational_inverses (g.R.OreRing.sig l.ring).order (within program (g.R.OreRing.sig l.ring)) (rows_of l.a) ≡ run.begin_rows rationals rational_inverses (g.R.OreRing.sig l.ring).order (within program (g.R.OreRing.sig l.ring)) (length (rows_of l.a)) l.k (drop l.k (rows_of l.a)) (run_state l.progress);
  fits : IsProgressOf (g.R.OreRing.sig l.ring) l.progress;
  begun : IsBegun l.progress;
  cols : l.progress.basis.cols ≡ l.a.cols;
  width : l.progress.basis.width ≡ length l.a.rows;
  few : length l.progress.basis.items ≤ l.k;
}
