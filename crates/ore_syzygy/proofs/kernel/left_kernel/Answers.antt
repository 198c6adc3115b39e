use Rattle.std.proofs.Common.{sym, subst}
use Rattle.ore_algebra.specs.Limits.{program}
use Rattle.ore_rational.specs.Field.{rationals}
use Rattle.ore_rows.specs.Rows.{IsExact}
use Rattle.ore_rows.specs.Stored.{OperatorMatrix, rows_of}
use Rattle.ore_blocks.specs.CheckBlock.{row_matrix_of}
use Rattle.ore_blocks.specs.KernelCourse.{run_on}
use Rattle.ore_groebner.specs.Choosing.{present}
use Rattle.ore_syzygy.proofs.FollowedKernels.{memory_halts}
use Rattle.ore_syzygy.proofs.RunKernels.{matrix_of, run_exact}
use Rattle.ore_syzygy.proofs.kernel.left_kernel.Goals as goal

pub returns-in_default-clause-halts : goal.returns-in_default-clause-halts
returns-in_default-clause-halts g c =
    let s = g.R.OreRing.sig c.args.ring.now in
    memory_halts s g.C.Rule.allows g.C.Rule.allows_spent (run_on program s (row_matrix_of c.args.a.now)) _ _ (g.C.Chooser.settings c.run.new.chooser)

pub returns-clause-kernel : goal.returns-clause-kernel
returns-clause-kernel g c =
    let s = g.R.OreRing.sig c.args.ring.now in
    let a = c.args.a.now in
    let same = c.in-Ok.ensures.same in
    let exact = run_exact s c.in_ok-run.run' a (present (g.C.Chooser.given c.run.new.chooser)) c.in_ok-run.ensures.honest (matrix_of s a c.cols-cols.result c.cols-cols.ensures.fits c.cols-cols.ensures.value c.requires) in
    record { generators = same; exact = subst (λ (m : OperatorMatrix). IsExact rationals s a.cols (rows_of a) (rows_of m)) (sym same) exact }
