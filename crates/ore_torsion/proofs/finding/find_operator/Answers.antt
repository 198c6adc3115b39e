use Rattle.std.proofs.lemmas.Result.{err_from_is_err_and}
use Rattle.ore_algebra.specs.Limits.{program}
use Rattle.ore_rows.specs.Stored.{sums_of}
use Rattle.ore_blocks.specs.CheckBlock.{row_matrix_of}
use Rattle.ore_groebner.specs.Courses.{last_of}
use Rattle.ore_check.specs.Plans.{autonomous}
use Rattle.ore_check.proofs.LastWork.{memory_halts}
use Rattle.ore_torsion.proofs.FollowedAnalysis.{operator_run_halts, operator_halts, operator_formed}
use Rattle.ore_torsion.proofs.finding.find_operator.Goals as goal

pub returns-in_err-stacked-clause-halts : goal.returns-in_err-stacked-clause-halts
returns-in_err-stacked-clause-halts g c =
    let s = g.R.OreRing.sig c.args.ring.now in
    let chooser = c.args.chooser.now in
    let e = err_from_is_err_and c.from_residual.result c.from_residual.ensures.1 in
    rw (e.1, e.2)
    (memory_halts s g.C.Rule.allows g.C.Rule.allows_spent (autonomous program s (row_matrix_of c.args.r.now) (last_of c.args.first) (sums_of c.args.rest.row)) (g.C.Chooser.given chooser) (g.C.Chooser.given chooser) (g.C.Chooser.settings chooser) _ c.in_err-stacked.ensures.memory)

pub returns-in_err-second-clause-halts : goal.returns-in_err-second-clause-halts
returns-in_err-second-clause-halts g c =
    let chooser = c.run.new.chooser in
    let e = err_from_is_err_and c.from_residual-in_err-second.result c.from_residual-in_err-second.ensures.1 in
    rw (e.1, e.2)
    (operator_run_halts (g.R.OreRing.sig c.args.ring.now) g.C.Rule.allows g.C.Rule.allows_spent c.args.r.now c.args.first c.args.rest.row c.in_ok-stacked.stacked c.in_ok-stacked.ensures.value (g.C.Chooser.given c.args.chooser.now) (g.C.Chooser.given chooser) (g.C.Chooser.settings chooser) _ c.in_err-second.ensures.halts)

pub returns-in_err-form_element-clause-halts : goal.returns-in_err-form_element-clause-halts
returns-in_err-form_element-clause-halts g c =
    let chooser = c.run.new.chooser in
    let e = err_from_is_err_and c.from_residual-in_err-form_element.result c.from_residual-in_err-form_element.ensures.1 in
    rw (e.1, e.2)
    (operator_halts (g.R.OreRing.sig c.args.ring.now) g.C.Rule.allows g.C.Rule.allows_spent c.args.r.now c.args.first c.args.rest.row c.in_ok-stacked.stacked c.in_ok-stacked.ensures.value (g.C.Chooser.given c.args.chooser.now) (g.C.Chooser.given chooser) c.in_ok-second.second c.in_ok-second.ensures.answered (g.C.Chooser.settings chooser) _ c.in_err-form_element.ensures.formed)

pub returns-clause-answered : goal.returns-clause-answered
returns-clause-answered g c =
    operator_formed (g.R.OreRing.sig c.args.ring.now) g.C.Rule.allows g.C.Rule.allows_spent c.args.r.now c.args.first c.args.rest.row c.in_ok-stacked.stacked c.in_ok-stacked.ensures.value (g.C.Chooser.given c.args.chooser.now) (g.C.Chooser.given c.run.new.chooser) c.in_ok-second.second c.in_ok-second.ensures.answered _ c.in_ok-form_element.ensures.formed
