use Rattle.std.proofs.Common.{subst}
use Rattle.std.proofs.lemmas.Result.{err_from_is_err_and, IfOk-weaker, IfErr-weaker}
use Rattle.ore_groebner.specs.Courses.{last_of}
use Rattle.ore_syzygy.proofs.RunKernels.{matrix_of}
use Rattle.ore_inverse.specs.StoredReductions.{AreReducedSyzygies}
use Rattle.ore_torsion.proofs.FollowedAnalysis.{verdict_formed, verdict_halts, element_formed, element_halts, analyse_is_right}
use Rattle.ore_torsion.proofs.finding.analyse.Goals as goal

pub form_controllable-requires-clause-count : goal.form_controllable-requires-clause-count
form_controllable-requires-clause-count g c =
    let x = c.in_ok-elements.elements in
    (subst (AreReducedSyzygies (g.R.OreRing.sig c.args.ring.now) c.args.r.now x.first x.second) c.in-AllReduce.is c.in_ok-elements.ensures.reduced).1

pub form_controllable-requires-clause-combinations_of : goal.form_controllable-requires-clause-combinations_of
form_controllable-requires-clause-combinations_of g c =
    let x = c.in_ok-elements.elements in
    (subst (AreReducedSyzygies (g.R.OreRing.sig c.args.ring.now) c.args.r.now x.first x.second) c.in-AllReduce.is c.in_ok-elements.ensures.reduced).2

pub find_operator-requires-clause-width : goal.find_operator-requires-clause-width
find_operator-requires-clause-width g c =
    let x = c.in_ok-elements.elements in
    (subst (AreReducedSyzygies (g.R.OreRing.sig c.args.ring.now) c.args.r.now x.first x.second) c.in-LeavesRest.is c.in_ok-elements.ensures.reduced).0

pub find_operator-requires-clause-rest_of : goal.find_operator-requires-clause-rest_of
find_operator-requires-clause-rest_of g c =
    let x = c.in_ok-elements.elements in
    (subst (AreReducedSyzygies (g.R.OreRing.sig c.args.ring.now) c.args.r.now x.first x.second) c.in-LeavesRest.is c.in_ok-elements.ensures.reduced).1

pub find_operator-requires-clause-block_of : goal.find_operator-requires-clause-block_of
find_operator-requires-clause-block_of g c =
    let x = c.in_ok-elements.elements in
    (subst (AreReducedSyzygies (g.R.OreRing.sig c.args.ring.now) c.args.r.now x.first x.second) c.in-LeavesRest.is c.in_ok-elements.ensures.reduced).2

pub returns-in_err-elements-clause-halts : goal.returns-in_err-elements-clause-halts
returns-in_err-elements-clause-halts g c =
    let e = err_from_is_err_and c.from_residual.result c.from_residual.ensures.1 in
    rw (e.1, e.2) c.in_err-elements.ensures.halts

pub returns-in_err-form_controllable-in-AllReduce-clause-halts : goal.returns-in_err-form_controllable-in-AllReduce-clause-halts
returns-in_err-form_controllable-in-AllReduce-clause-halts g c =
    let s = g.R.OreRing.sig c.args.ring.now in
    let r = c.args.r.now in
    let x = c.in_ok-elements.elements in
    let chooser = c.reduce_kernel_rows.new.chooser in
    let found = c.in_ok-elements.ensures in
    let of = subst (AreReducedSyzygies s r x.first x.second) c.in-AllReduce.is found.reduced in
    let e = err_from_is_err_and c.from_residual-in_err-form_controllable-in-AllReduce.result c.from_residual-in_err-form_controllable-in-AllReduce.ensures.1 in
    rw (e.1, e.2)
    (verdict_halts s g.C.Rule.allows g.C.Rule.allows_spent r (last_of x.first) x.generators x.second x.reductions (g.C.Chooser.given c.args.chooser.now) (g.C.Chooser.given chooser) found.left found.generators_of c.in-AllReduce.combinations c.in-AllReduce.is of.0
    (g.C.Chooser.settings chooser) _ c.in_err-form_controllable-in-AllReduce.ensures.formed)

pub returns-in_ok-form_controllable-in-AllReduce-clause-answered : goal.returns-in_ok-form_controllable-in-AllReduce-clause-answered
returns-in_ok-form_controllable-in-AllReduce-clause-answered g c =
    let s = g.R.OreRing.sig c.args.ring.now in
    let r = c.args.r.now in
    let x = c.in_ok-elements.elements in
    let found = c.in_ok-elements.ensures in
    let of = subst (AreReducedSyzygies s r x.first x.second) c.in-AllReduce.is found.reduced in
    verdict_formed s g.C.Rule.allows g.C.Rule.allows_spent r (last_of x.first) x.generators x.second x.reductions (g.C.Chooser.given c.args.chooser.now) (g.C.Chooser.given c.reduce_kernel_rows.new.chooser) found.left found.generators_of c.in-AllReduce.combinations c.in-AllReduce.is of.0
    _ c.in_ok-form_controllable-in-AllReduce.ensures.formed

pub returns-in_ok-form_controllable-in-AllReduce-clause-correct : goal.returns-in_ok-form_controllable-in-AllReduce-clause-correct
returns-in_ok-form_controllable-in-AllReduce-clause-correct g c =
    let s = g.R.OreRing.sig c.args.ring.now in
    let r = c.args.r.now in
    analyse_is_right s g.C.Rule.allows g.C.Rule.allows_spent r (matrix_of s r c.cols-cols.result c.cols-cols.ensures.fits c.cols-cols.ensures.value c.requires) (g.C.Chooser.given c.args.chooser.now) (g.C.Chooser.given c.reduce_kernel_rows.new.chooser) _ (returns-in_ok-form_controllable-in-AllReduce-clause-answered g c)

pub returns-in-LeavesRest-clause-answered : goal.returns-in-LeavesRest-clause-answered
returns-in-LeavesRest-clause-answered g c =
    let x = c.in_ok-elements.elements in
    let given = g.C.Chooser.given c.find_operator.new.chooser in
    IfOk-weaker c.find_operator.result _ _
    (element_formed (g.R.OreRing.sig c.args.ring.now) g.C.Rule.allows g.C.Rule.allows_spent c.args.r.now (last_of x.first) x.generators x.second x.reductions (g.C.Chooser.given c.args.chooser.now) (g.C.Chooser.given c.reduce_kernel_rows.new.chooser) c.in_ok-elements.ensures.left _ c.in-LeavesRest.rest c.in-LeavesRest.is given)
    c.find_operator.ensures.answered

pub returns-in-LeavesRest-clause-halts : goal.returns-in-LeavesRest-clause-halts
returns-in-LeavesRest-clause-halts g c =
    let x = c.in_ok-elements.elements in
    let chooser = c.find_operator.new.chooser in
    IfErr-weaker c.find_operator.result _ _
    (element_halts (g.R.OreRing.sig c.args.ring.now) g.C.Rule.allows g.C.Rule.allows_spent c.args.r.now (last_of x.first) x.generators x.second x.reductions (g.C.Chooser.given c.args.chooser.now) (g.C.Chooser.given c.reduce_kernel_rows.new.chooser) c.in_ok-elements.ensures.left _ c.in-LeavesRest.rest c.in-LeavesRest.is (g.C.Chooser.given chooser) (g.C.Chooser.settings chooser))
    c.find_operator.ensures.halts

pub returns-in-LeavesRest-clause-correct : goal.returns-in-LeavesRest-clause-correct
returns-in-LeavesRest-clause-correct g c =
    let s = g.R.OreRing.sig c.args.ring.now in
    let r = c.args.r.now in
    IfOk-weaker c.find_operator.result _ _
    (analyse_is_right s g.C.Rule.allows g.C.Rule.allows_spent r (matrix_of s r c.cols-cols.result c.cols-cols.ensures.fits c.cols-cols.ensures.value c.requires) (g.C.Chooser.given c.args.chooser.now) (g.C.Chooser.given c.find_operator.new.chooser))
    (returns-in-LeavesRest-clause-answered g c)
