use Rattle.std.proofs.Common.{◌≡◌, length, sym, subst}
use Rattle.std.proofs.lemmas.Result.{err_from_is_err_and}
use Rattle.ore_algebra.specs.Limits.{program}
use Rattle.ore_monomial.specs.Gives.{Fails}
use Rattle.std.specs.declared.result.Result.TheVariants.{Ok}
use Rattle.ore_adjoint.specs.AdjointMatrix.{transpose_adjoint_within}
use Rattle.ore_rows.specs.Stored.{rows_of}
use Rattle.ore_blocks.specs.CheckBlock.{RowMatrix, row_matrix_of}
use Rattle.ore_blocks.specs.KernelCourse.{syzygies_of, transposed_adjoint_within, right_kernel}
use Rattle.ore_groebner.specs.Choosing.{present}
use Rattle.ore_groebner.specs.Courses.{last_of, FollowsTo, HaltsIn}
use Rattle.ore_syzygy.proofs.FollowedKernels as followed
use Rattle.ore_syzygy.proofs.RunKernels.{adjoint_is, matrix_of, right_is, syzygies_width, answer_is}
use Rattle.ore_syzygy.proofs.kernel.right_kernel.Goals as goal

pub returns-in-Err-clause-halts : goal.returns-in-Err-clause-halts
returns-in-Err-clause-halts g c =
    let s = g.R.OreRing.sig c.args.ring.now in
    let r = row_matrix_of c.args.r.now in
    let before = g.C.Chooser.given c.args.chooser.now in
    let stop = c.in-Err.stop in
    subst (HaltsIn s g.C.Rule.allows g.C.Rule.allows_spent (right_kernel program s r) before before (g.C.Chooser.settings c.args.chooser.now)) (sym c.halt_at.ensures)
    (followed.stop_halts s g.C.Rule.allows g.C.Rule.allows_spent (right_kernel program s r) before before (g.C.Chooser.settings c.args.chooser.now) (transposed_adjoint_within program s r) (followed.after_adjoint s g.C.Rule.allows g.C.Rule.allows_spent r before) stop
    (followed.adjoint_stop s r stop c.in-Err.ensures.gives) (followed.begun s g.C.Rule.allows g.C.Rule.allows_spent r before))

pub returns-in_err-run-clause-halts : goal.returns-in_err-run-clause-halts
returns-in_err-run-clause-halts g c =
    let s = g.R.OreRing.sig c.args.ring.now in
    let r = row_matrix_of c.args.r.now in
    let a : RowMatrix = record { cols = length r.rows; rows = rows_of c.in-Ok.adjoint } in
    let e = err_from_is_err_and c.from_residual.result c.from_residual.ensures.1 in
    rw (e.1, e.2) (followed.run_halted s g.C.Rule.allows g.C.Rule.allows_spent r (g.C.Chooser.given c.args.chooser.now) a (followed.adjoint_value s r a.rows c.in-Ok.ensures.gives) (g.C.Chooser.given c.run.new.chooser) (g.C.Chooser.settings c.run.new.chooser) _ c.in_err-run.ensures.halts)

pub returns-in-Ok-transpose_adjoint-clause-kernel : goal.returns-in-Ok-transpose_adjoint-clause-kernel
returns-in-Ok-transpose_adjoint-clause-kernel g c =
    let s = g.R.OreRing.sig c.args.ring.now in
    let adjoint = c.in-Ok.adjoint in
    let e = c.in-Ok.ensures in
    let back = c.in-Ok-transpose_adjoint.ensures in
    right_is s c.in_ok-run.run' adjoint (present (g.C.Chooser.given c.run.new.chooser)) c.in_ok-run.ensures.honest (matrix_of s adjoint c.cols-fits.result c.cols-fits.ensures.fits c.cols-fits.ensures.value e.of)
    c.args.r.now c.in-Ok-transpose_adjoint.generators e.cols e.count e.gives back.cols back.count back.gives

pub returns-in-Ok-transpose_adjoint-clause-honest : goal.returns-in-Ok-transpose_adjoint-clause-honest
returns-in-Ok-transpose_adjoint-clause-honest g c =
    let s = g.R.OreRing.sig c.args.ring.now in
    (c.in-Ok.adjoint, adjoint_is s c.args.r.now c.in-Ok.adjoint c.in-Ok.ensures.cols c.in-Ok.ensures.gives, c.in_ok-run.ensures.honest)

pub returns-in-Ok-transpose_adjoint-clause-answered : goal.returns-in-Ok-transpose_adjoint-clause-answered
returns-in-Ok-transpose_adjoint-clause-answered g c =
    let s = g.R.OreRing.sig c.args.ring.now in
    let r = row_matrix_of c.args.r.now in
    let before = g.C.Chooser.given c.args.chooser.now in
    let given = g.C.Chooser.given c.run.new.chooser in
    let a : RowMatrix = record { cols = length r.rows; rows = rows_of c.in-Ok.adjoint } in
    let formed = followed.adjoint_value s r a.rows c.in-Ok.ensures.gives in
    let f = c.in_ok-run.run' in
    let honest = c.in_ok-run.ensures.honest in
    let generators = c.in-Ok-transpose_adjoint.generators in
    let back = c.in-Ok-transpose_adjoint.ensures in
    let formed_back = subst (λ n. transpose_adjoint_within program s n (rows_of f.syzygies) ≡ Ok (rows_of generators)) (syzygies_width s f c.in-Ok.adjoint (present given) honest) back.gives in
    subst (FollowsTo s g.C.Rule.allows g.C.Rule.allows_spent (right_kernel program s r) before given) (answer_is s f c.in-Ok.adjoint (present given) honest c.args.r.now generators c.in-Ok.ensures.gives back.cols)
    (followed.answered s g.C.Rule.allows g.C.Rule.allows_spent r before a formed given (last_of f) c.in_ok-run.ensures.answered
    (record { cols = length (rows_of f.syzygies); rows = rows_of generators }) (followed.adjoint_value s (syzygies_of a (last_of f)) (rows_of generators) formed_back))

pub returns-clause-halts : goal.returns-clause-halts
returns-clause-halts g c =
    let s = g.R.OreRing.sig c.args.ring.now in
    let r = row_matrix_of c.args.r.now in
    let before = g.C.Chooser.given c.args.chooser.now in
    let given = g.C.Chooser.given c.run.new.chooser in
    let a : RowMatrix = record { cols = length r.rows; rows = rows_of c.in-Ok.adjoint } in
    let formed = followed.adjoint_value s r a.rows c.in-Ok.ensures.gives in
    let f = c.in_ok-run.run' in
    let stop = c.in-Err-transpose_adjoint.stop in
    let syzygies = syzygies_of a (last_of f) in
    let fails = subst (λ n. Fails stop (transpose_adjoint_within program s n (rows_of f.syzygies))) (syzygies_width s f c.in-Ok.adjoint (present given) c.in_ok-run.ensures.honest) c.in-Err-transpose_adjoint.ensures.gives in
    subst (HaltsIn s g.C.Rule.allows g.C.Rule.allows_spent (right_kernel program s r) before given (g.C.Chooser.settings c.run.new.chooser)) (sym c.halt_at-in-Err-transpose_adjoint.ensures)
    (followed.stop_halts s g.C.Rule.allows g.C.Rule.allows_spent (right_kernel program s r) before given (g.C.Chooser.settings c.run.new.chooser) (transposed_adjoint_within program s syzygies) _ stop (followed.adjoint_stop s syzygies stop fails)
    (followed.run_answered s g.C.Rule.allows g.C.Rule.allows_spent r before a formed given (last_of f) c.in_ok-run.ensures.answered))
