use Rattle.std.proofs.Common.{length, ap, ◌∙◌, subst}
use Rattle.std.proofs.lemmas.Result.{err_from_is_err_and}
use Rattle.ore_rows.specs.Stored.{OperatorMatrix}
use Rattle.ore_blocks.specs.CheckBlock.{row_matrix_of}
use Rattle.ore_groebner.specs.Courses.{last_of, FollowsTo, HaltsIn}
use Rattle.ore_groebner.specs.Halting.{halt_of}
use Rattle.ore_groebner.specs.declared.outcome.StopAt.TheVariants.{Forced}
use Rattle.ore_check.proofs.LinkConditions.{found_of}
use Rattle.ore_resolution.specs.Stored.{run_on_adjoint}
use Rattle.ore_resolution.proofs.FollowedExtension.{adjoint_halts, adjoint_run_halts, adjoint_answered}
use Rattle.ore_resolution.proofs.elements.run_on_adjoint.Goals as goal

pub transpose_adjoint-requires : goal.transpose_adjoint-requires
transpose_adjoint-requires g c =
    record { of = found_of (g.R.OreRing.sig c.args.ring.now) c.args.r.now c.args.links.now c.args.k c.matrix_before.result.now c.matrix_before.ensures c.requires.of c.requires.links_of.all }

pub returns-in_err-adjoint-clause-halts : goal.returns-in_err-adjoint-clause-halts
returns-in_err-adjoint-clause-halts g c =
    let s = g.R.OreRing.sig c.args.ring.now in
    let chooser = c.args.chooser.now in
    let given = g.C.Chooser.given chooser in
    let settings = g.C.Chooser.settings chooser in
    let e = err_from_is_err_and c.from_residual.result c.from_residual.ensures.1 in
    rw (e.1, e.2)
    (subst (λ (m : OperatorMatrix). HaltsIn s g.C.Rule.allows g.C.Rule.allows_spent (run_on_adjoint s (row_matrix_of m)) given given settings (halt_of c.in_err-adjoint.field-0.0 Forced)) c.matrix_before.ensures
    (adjoint_halts s g.C.Rule.allows g.C.Rule.allows_spent c.matrix_before.result.now given settings _ c.in_err-adjoint.ensures.gives))

pub returns-in_err-run-clause-halts : goal.returns-in_err-run-clause-halts
returns-in_err-run-clause-halts g c =
    let s = g.R.OreRing.sig c.args.ring.now in
    let before = g.C.Chooser.given c.args.chooser.now in
    let chooser = c.run_on.new.chooser in
    let formed = c.in_ok-adjoint.ensures in
    let e = err_from_is_err_and c.from_residual-in_err-run.result c.from_residual-in_err-run.ensures.1 in
    rw (e.1, e.2)
    (subst (λ (m : OperatorMatrix). HaltsIn s g.C.Rule.allows g.C.Rule.allows_spent (run_on_adjoint s (row_matrix_of m)) before (g.C.Chooser.given chooser) (g.C.Chooser.settings chooser) c.in_err-run.field-0.0) c.matrix_before.ensures
    (adjoint_run_halts s g.C.Rule.allows g.C.Rule.allows_spent c.matrix_before.result.now before c.in_ok-adjoint.adjoint formed.cols formed.gives (g.C.Chooser.given chooser) (g.C.Chooser.settings chooser) _ c.in_err-run.ensures.halts))

pub returns-clause-cols : goal.returns-clause-cols
returns-clause-cols g c = c.in_ok-adjoint.ensures.cols ∙ ap (λ (m : OperatorMatrix). length m.rows) c.matrix_before.ensures

pub returns-clause-count : goal.returns-clause-count
returns-clause-count g c = c.in_ok-adjoint.ensures.count ∙ ap (λ (m : OperatorMatrix). m.cols) c.matrix_before.ensures

pub returns-clause-answered : goal.returns-clause-answered
returns-clause-answered g c =
    let s = g.R.OreRing.sig c.args.ring.now in
    let before = g.C.Chooser.given c.args.chooser.now in
    let given = g.C.Chooser.given c.run_on.new.chooser in
    let formed = c.in_ok-adjoint.ensures in
    let adjoint = c.in_ok-adjoint.adjoint in
    let last = last_of c.in_ok-run.run' in
    subst (λ (m : OperatorMatrix). FollowsTo s g.C.Rule.allows g.C.Rule.allows_spent (run_on_adjoint s (row_matrix_of m)) before given (row_matrix_of adjoint, last)) c.matrix_before.ensures
    (adjoint_answered s g.C.Rule.allows g.C.Rule.allows_spent c.matrix_before.result.now before adjoint formed.cols formed.gives given last c.in_ok-run.ensures.answered)
