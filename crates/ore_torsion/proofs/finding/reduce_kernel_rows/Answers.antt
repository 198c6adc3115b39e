use Rattle.std.proofs.Common.{sym, subst, ◌∙◌}
use Rattle.std.proofs.lemmas.Result.{err_from_is_err_and}
use Rattle.ore_monomial.specs.Gives.{Fails}
use Rattle.ore_rows.specs.Stored.{rows_of}
use Rattle.ore_blocks.specs.CheckBlock.{row_matrix_of}
use Rattle.ore_groebner.specs.Courses.{last_of}
use Rattle.ore_inverse.specs.StoredReductions.{reductions_of}
use Rattle.ore_syzygy.specs.Kernels.{right_answer}
use Rattle.ore_inverse.proofs.ReducedSyzygies.{reduced_syzygies}
use Rattle.ore_inverse.proofs.StoredRuns.{reduced_is}
use Rattle.ore_torsion.proofs.FollowedAnalysis.{first_halts, kernel_halts, second_halts, reducing_halts, reduced_to}
use Rattle.ore_torsion.proofs.finding.reduce_kernel_rows.Goals as goal

pub returns-in_err-first-clause-halts : goal.returns-in_err-first-clause-halts
returns-in_err-first-clause-halts g c =
    let s = g.R.OreRing.sig c.args.ring.now in
    let chooser = c.run_on.new.chooser in
    let e = err_from_is_err_and c.from_residual.result c.from_residual.ensures.1 in
    rw (e.1, e.2)
    (first_halts s g.C.Rule.allows g.C.Rule.allows_spent (row_matrix_of c.args.r.now) (g.C.Chooser.given c.args.chooser.now) (g.C.Chooser.given chooser) (g.C.Chooser.settings chooser) _ c.in_err-first.ensures.halts)

pub returns-in_err-kernel-clause-halts : goal.returns-in_err-kernel-clause-halts
returns-in_err-kernel-clause-halts g c =
    let s = g.R.OreRing.sig c.args.ring.now in
    let chooser = c.right_kernel.new.chooser in
    let e = err_from_is_err_and c.from_residual-in_err-kernel.result c.from_residual-in_err-kernel.ensures.1 in
    rw (e.1, e.2)
    (kernel_halts s g.C.Rule.allows g.C.Rule.allows_spent (row_matrix_of c.args.r.now) (g.C.Chooser.given c.args.chooser.now) (last_of c.in_ok-first.first) (g.C.Chooser.given c.run_on.new.chooser) c.in_ok-first.ensures.answered (g.C.Chooser.given chooser) (g.C.Chooser.settings chooser) _ c.in_err-kernel.ensures.halts)

pub returns-in_err-second-clause-halts : goal.returns-in_err-second-clause-halts
returns-in_err-second-clause-halts g c =
    let s = g.R.OreRing.sig c.args.ring.now in
    let r = c.args.r.now in
    let chooser = c.run_on-2.new.chooser in
    let e = err_from_is_err_and c.from_residual-in_err-second.result c.from_residual-in_err-second.ensures.1 in
    rw (e.1, e.2)
    (second_halts s g.C.Rule.allows g.C.Rule.allows_spent (row_matrix_of r) (g.C.Chooser.given c.args.chooser.now) (last_of c.in_ok-first.first) (g.C.Chooser.given c.run_on.new.chooser) c.in_ok-first.ensures.answered
    (right_answer s r c.in_ok-kernel.kernel) (g.C.Chooser.given c.right_kernel.new.chooser) c.in_ok-kernel.ensures.answered (g.C.Chooser.given chooser) (g.C.Chooser.settings chooser) _ c.in_err-second.ensures.halts)

pub returns-in_err-reductions-clause-halts : goal.returns-in_err-reductions-clause-halts
returns-in_err-reductions-clause-halts g c =
    let s = g.R.OreRing.sig c.args.ring.now in
    let r = c.args.r.now in
    let f = c.in_ok-first.first in
    let second = c.in_ok-second.second in
    let mid = g.C.Chooser.given c.run_on.new.chooser in
    let chooser = c.run_on-2.new.chooser in
    let same = reduced_is s r f c.in_ok-first.ensures.run (rows_of second.syzygies) in
    let e = err_from_is_err_and c.from_residual-in_err-reductions.result c.from_residual-in_err-reductions.ensures.1 in
    rw (e.1, e.2)
    (reducing_halts s g.C.Rule.allows g.C.Rule.allows_spent (row_matrix_of r) (g.C.Chooser.given c.args.chooser.now) (last_of f) mid c.in_ok-first.ensures.answered
    (right_answer s r c.in_ok-kernel.kernel) (g.C.Chooser.given c.right_kernel.new.chooser) c.in_ok-kernel.ensures.answered
    (last_of second) (g.C.Chooser.given chooser) c.in_ok-second.ensures.answered (g.C.Chooser.settings chooser) _ (subst (Fails _) (sym same) c.in_err-reductions.ensures.gives))

pub returns-clause-reduced : goal.returns-clause-reduced
returns-clause-reduced g c =
    reduced_syzygies (g.R.OreRing.sig c.args.ring.now) c.args.r.now c.in_ok-first.first c.in_ok-first.ensures.run c.in_ok-kernel.kernel.generators c.in_ok-second.second c.in_ok-second.ensures.run c.in_ok-kernel.ensures.kernel.rows
    c.in_ok-reductions.reductions c.in_ok-reductions.ensures.of c.in_ok-reductions.ensures.gives

pub returns-clause-left : goal.returns-clause-left
returns-clause-left g c =
    let s = g.R.OreRing.sig c.args.ring.now in
    let r = c.args.r.now in
    let f = c.in_ok-first.first in
    let second = c.in_ok-second.second in
    let mid = g.C.Chooser.given c.run_on.new.chooser in
    let same = reduced_is s r f c.in_ok-first.ensures.run (rows_of second.syzygies) in
    reduced_to s g.C.Rule.allows g.C.Rule.allows_spent (row_matrix_of r) (g.C.Chooser.given c.args.chooser.now) (last_of f) mid c.in_ok-first.ensures.answered
    (right_answer s r c.in_ok-kernel.kernel) (g.C.Chooser.given c.right_kernel.new.chooser) c.in_ok-kernel.ensures.answered
    (last_of second) (g.C.Chooser.given c.run_on-2.new.chooser) c.in_ok-second.ensures.answered (reductions_of c.in_ok-reductions.reductions) (same ∙ c.in_ok-reductions.ensures.gives)
