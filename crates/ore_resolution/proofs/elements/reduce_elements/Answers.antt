use Rattle.std.proofs.Common.{ap, sym, ◌∙◌, ◌-◌, length}
use Rattle.std.proofs.lemmas.Result.{err_from_is_err_and}
use Rattle.ore_blocks.specs.CheckBlock.{row_matrix_of}
use Rattle.ore_groebner.specs.Courses.{last_of}
use Rattle.ore_check.specs.InnerContracts.{matrix_before}
use Rattle.ore_inverse.specs.StoredReductions.{reductions_of}
use Rattle.ore_inverse.proofs.ReducedSyzygies.{reduced_syzygies}
use Rattle.ore_resolution.proofs.FollowedExtension.{last_halts, before_halts, reducing_halts, reduced_to}
use Rattle.ore_resolution.proofs.elements.reduce_elements.Goals as goal

pub returns-in_err-last-clause-halts : goal.returns-in_err-last-clause-halts
returns-in_err-last-clause-halts g c =
    let chooser = c.run_on_adjoint.new.chooser in
    let e = err_from_is_err_and c.from_residual.result c.from_residual.ensures.1 in
    rw (e.1, e.2)
    (last_halts (g.R.OreRing.sig c.args.ring.now) g.C.Rule.allows g.C.Rule.allows_spent c.args.r.now c.args.links.now (g.C.Chooser.given c.args.chooser.now) c.len-count.result c.len-count.ensures (g.C.Chooser.given chooser) (g.C.Chooser.settings chooser) _ c.in_err-last.ensures.halts)

pub returns-in_err-before-clause-halts : goal.returns-in_err-before-clause-halts
returns-in_err-before-clause-halts g c =
    let last = c.in_ok-last.last in
    let chooser = c.run_on_adjoint-2.new.chooser in
    let e = err_from_is_err_and c.from_residual-in_err-before.result c.from_residual-in_err-before.ensures.1 in
    rw (e.1, e.2)
    (before_halts (g.R.OreRing.sig c.args.ring.now) g.C.Rule.allows g.C.Rule.allows_spent c.args.r.now c.args.links.now (g.C.Chooser.given c.args.chooser.now) c.len-count.result c.len-count.ensures
    (g.C.Chooser.given c.run_on_adjoint.new.chooser) (row_matrix_of last.adjoint) (last_of last.run) c.in_ok-last.ensures.answered (g.C.Chooser.given chooser) (g.C.Chooser.settings chooser) _ c.in_err-before.ensures.halts)

pub returns-in_err-reductions-clause-halts : goal.returns-in_err-reductions-clause-halts
returns-in_err-reductions-clause-halts g c =
    let last = c.in_ok-last.last in
    let before = c.in_ok-before.before in
    let chooser = c.run_on_adjoint-2.new.chooser in
    let e = err_from_is_err_and c.from_residual-in_err-reductions.result c.from_residual-in_err-reductions.ensures.1 in
    rw (e.1, e.2)
    (reducing_halts (g.R.OreRing.sig c.args.ring.now) g.C.Rule.allows g.C.Rule.allows_spent c.args.r.now c.args.links.now (g.C.Chooser.given c.args.chooser.now) c.len-count.result c.len-count.ensures
    (g.C.Chooser.given c.run_on_adjoint.new.chooser) (row_matrix_of last.adjoint) (last_of last.run) c.in_ok-last.ensures.answered (g.C.Chooser.given chooser) before.adjoint before.run c.in_ok-before.ensures.run c.in_ok-before.ensures.answered
    (g.C.Chooser.settings chooser) _ c.in_err-reductions.ensures.gives)

pub returns-clause-left : goal.returns-clause-left
returns-clause-left g c =
    let last = c.in_ok-last.last in
    let before = c.in_ok-before.before in
    reduced_to (g.R.OreRing.sig c.args.ring.now) g.C.Rule.allows g.C.Rule.allows_spent c.args.r.now c.args.links.now (g.C.Chooser.given c.args.chooser.now) c.len-count.result c.len-count.ensures
    (g.C.Chooser.given c.run_on_adjoint.new.chooser) (row_matrix_of last.adjoint) (last_of last.run) c.in_ok-last.ensures.answered (g.C.Chooser.given c.run_on_adjoint-2.new.chooser) before.adjoint before.run c.in_ok-before.ensures.run c.in_ok-before.ensures.answered
    (reductions_of c.in_ok-reductions.reductions) c.in_ok-reductions.ensures.gives

pub returns-clause-reduced : goal.returns-clause-reduced
returns-clause-reduced g c =
    let r = c.args.r.now in
    let ks = c.args.links.now in
    let last = c.in_ok-last in
    let before = c.in_ok-before in
    let width = last.ensures.count ∙ ap (λ n. (matrix_before r ks n).cols) c.len-count.ensures ∙ c.requires.fits ∙ ap (λ n. length (matrix_before r ks (n - 1)).rows) (sym c.len-count.ensures) ∙ sym before.ensures.cols in
    reduced_syzygies (g.R.OreRing.sig c.args.ring.now) before.before.adjoint before.before.run before.ensures.run last.last.adjoint last.last.run last.ensures.run width c.in_ok-reductions.reductions c.in_ok-reductions.ensures.of c.in_ok-reductions.ensures.gives
