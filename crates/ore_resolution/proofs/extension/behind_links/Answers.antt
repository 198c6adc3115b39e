use Rattle.std.proofs.lemmas.Result.{err_from_is_err_and}
use Rattle.ore_algebra.specs.Limits.{program}
use Rattle.ore_cert.specs.declared.certificate.Certificate.TheVariants.{ExtZero, ExtNonzero}
use Rattle.ore_blocks.specs.CheckBlock.{row_matrix_of}
use Rattle.ore_check.specs.Plans.{extension}
use Rattle.ore_check.proofs.LastWork.{memory_halts, certified_halts, certified_as}
use Rattle.ore_inverse.proofs.StoredRuns.{has_run}
use Rattle.ore_resolution.specs.Stored.{resolution_of}
use Rattle.ore_resolution.proofs.FollowedExtension.{zero_reduced, zero_found, element_of, outside_of, nonzero_found}
use Rattle.ore_resolution.proofs.extension.behind_links.Goals as goal

pub returns-in_err-found-clause-halts : goal.returns-in_err-found-clause-halts
returns-in_err-found-clause-halts g c =
    let e = err_from_is_err_and c.from_residual.result c.from_residual.ensures.1 in
    rw (e.1, e.2) c.in_err-found.ensures.halts

-- ---- the module is zero

pub exact_block-requires-clause-run : goal.exact_block-requires-clause-run
exact_block-requires-clause-run g c =
    let y = c.in_ok-found.found in
    has_run (g.R.OreRing.sig c.args.ring.now) y.last.adjoint y.last.run c.in_ok-found.ensures.last

pub exact_block-requires-clause-count : goal.exact_block-requires-clause-count
exact_block-requires-clause-count g c =
    let found = c.in_ok-found.ensures in
    (zero_reduced (g.R.OreRing.sig c.args.ring.now) g.C.Rule.allows g.C.Rule.allows_spent c.args.r.now c.args.links (g.C.Chooser.given c.args.chooser.now) (g.C.Chooser.given c.reduce_elements.new.chooser) c.in_ok-found.found found.last found.before found.reduced found.left
    c.in-AllReduce.combinations c.in-AllReduce.is).1

pub exact_block-requires-clause-inside_of : goal.exact_block-requires-clause-inside_of
exact_block-requires-clause-inside_of g c =
    let found = c.in_ok-found.ensures in
    (zero_reduced (g.R.OreRing.sig c.args.ring.now) g.C.Rule.allows g.C.Rule.allows_spent c.args.r.now c.args.links (g.C.Chooser.given c.args.chooser.now) (g.C.Chooser.given c.reduce_elements.new.chooser) c.in_ok-found.found found.last found.before found.reduced found.left
    c.in-AllReduce.combinations c.in-AllReduce.is).2

pub returns-in_err-block-in-AllReduce-clause-halts :
    goal.returns-in_err-block-in-AllReduce-clause-halts
returns-in_err-block-in-AllReduce-clause-halts g c =
    let s = g.R.OreRing.sig c.args.ring.now in
    let r = c.args.r.now in
    let chooser = c.reduce_elements.new.chooser in
    let e = err_from_is_err_and c.from_residual-in_err-block-in-AllReduce.result c.from_residual-in_err-block-in-AllReduce.ensures.1 in
    rw (e.1, e.2)
    (memory_halts s g.C.Rule.allows g.C.Rule.allows_spent (extension program s (row_matrix_of r) (resolution_of r c.args.links)) (g.C.Chooser.given c.args.chooser.now) (g.C.Chooser.given chooser) (g.C.Chooser.settings chooser) _ c.in_err-block-in-AllReduce.ensures.memory)

pub returns-in_err-certify-in-AllReduce-clause-halts :
    goal.returns-in_err-certify-in-AllReduce-clause-halts
returns-in_err-certify-in-AllReduce-clause-halts g c =
    let s = g.R.OreRing.sig c.args.ring.now in
    let r = c.args.r.now in
    let start = g.C.Chooser.given c.args.chooser.now in
    let chooser = c.reduce_elements.new.chooser in
    let given = g.C.Chooser.given chooser in
    let found = c.in_ok-found.ensures in
    let block = c.in_ok-block-in-AllReduce.block in
    let left =
    zero_found s g.C.Rule.allows g.C.Rule.allows_spent r c.args.links start given c.in_ok-found.found found.last found.before found.reduced found.left
    c.in-AllReduce.combinations c.in-AllReduce.is block c.in_ok-block-in-AllReduce.ensures.value in
    let e = err_from_is_err_and c.from_residual-in_err-certify-in-AllReduce.result c.from_residual-in_err-certify-in-AllReduce.ensures.1 in
    rw (e.1, e.2)
    (certified_halts s g.C.Rule.allows g.C.Rule.allows_spent (extension program s (row_matrix_of r) (resolution_of r c.args.links)) start given (row_matrix_of r) (ExtZero c.args.links block) tt left (g.C.Chooser.settings chooser) _ c.in_err-certify-in-AllReduce.ensures.formed)

pub returns-in_ok-certify-in-AllReduce-clause-answered : goal.returns-in_ok-certify-in-AllReduce-clause-answered
returns-in_ok-certify-in-AllReduce-clause-answered g c =
    let s = g.R.OreRing.sig c.args.ring.now in
    let r = c.args.r.now in
    let start = g.C.Chooser.given c.args.chooser.now in
    let given = g.C.Chooser.given c.reduce_elements.new.chooser in
    let found = c.in_ok-found.ensures in
    let block = c.in_ok-block-in-AllReduce.block in
    let left =
    zero_found s g.C.Rule.allows g.C.Rule.allows_spent r c.args.links start given c.in_ok-found.found found.last found.before found.reduced found.left
    c.in-AllReduce.combinations c.in-AllReduce.is block c.in_ok-block-in-AllReduce.ensures.value in
    certified_as s g.C.Rule.allows g.C.Rule.allows_spent (extension program s (row_matrix_of r) (resolution_of r c.args.links)) start given (row_matrix_of r) (ExtZero c.args.links block) tt left _ c.in_ok-certify-in-AllReduce.ensures.formed

-- ---- it isn't

pub outside_block-requires-clause-run : goal.outside_block-requires-clause-run
outside_block-requires-clause-run g c =
    let y = c.in_ok-found.found in
    has_run (g.R.OreRing.sig c.args.ring.now) y.before.adjoint y.before.run c.in_ok-found.ensures.before

pub outside_block-requires-clause-rest_of : goal.outside_block-requires-clause-rest_of
outside_block-requires-clause-rest_of g c =
    let found = c.in_ok-found.ensures in
    element_of (g.R.OreRing.sig c.args.ring.now) g.C.Rule.allows g.C.Rule.allows_spent c.args.r.now c.args.links (g.C.Chooser.given c.args.chooser.now) (g.C.Chooser.given c.reduce_elements.new.chooser) c.in_ok-found.found found.last found.before found.reduced found.left
    _ c.in-LeavesRest.rest c.in-LeavesRest.is c.without_steps-outside.result c.without_steps-outside.ensures.row

pub returns-in_err-block-in-LeavesRest-clause-halts :
    goal.returns-in_err-block-in-LeavesRest-clause-halts
returns-in_err-block-in-LeavesRest-clause-halts g c =
    let s = g.R.OreRing.sig c.args.ring.now in
    let r = c.args.r.now in
    let chooser = c.reduce_elements.new.chooser in
    let e = err_from_is_err_and c.from_residual-in_err-block-in-LeavesRest.result c.from_residual-in_err-block-in-LeavesRest.ensures.1 in
    rw (e.1, e.2)
    (memory_halts s g.C.Rule.allows g.C.Rule.allows_spent (extension program s (row_matrix_of r) (resolution_of r c.args.links)) (g.C.Chooser.given c.args.chooser.now) (g.C.Chooser.given chooser) (g.C.Chooser.settings chooser) _ c.in_err-block-in-LeavesRest.ensures.memory)

pub certify-requires-in-LeavesRest-clause-cert_of :
    goal.certify-requires-in-LeavesRest-clause-cert_of
certify-requires-in-LeavesRest-clause-cert_of g c =
    let s = g.R.OreRing.sig c.args.ring.now in
    let start = g.C.Chooser.given c.args.chooser.now in
    let given = g.C.Chooser.given c.reduce_elements.new.chooser in
    let y = c.in_ok-found.found in
    let found = c.in_ok-found.ensures in
    let w = c.without_steps-outside in (
      c.requires.links_of,
      element_of s g.C.Rule.allows g.C.Rule.allows_spent c.args.r.now c.args.links start given y found.last found.before found.reduced found.left _ c.in-LeavesRest.rest c.in-LeavesRest.is w.result w.ensures.row,
      outside_of s g.C.Rule.allows g.C.Rule.allows_spent c.args.r.now c.args.links start given y found.last found.before found.reduced found.left _ c.in-LeavesRest.rest c.in-LeavesRest.is w.result w.ensures.row w.ensures.steps
          c.in_ok-block-in-LeavesRest.block c.in_ok-block-in-LeavesRest.ensures.value,
    )

pub returns-in_err-certify-in-LeavesRest-clause-halts :
    goal.returns-in_err-certify-in-LeavesRest-clause-halts
returns-in_err-certify-in-LeavesRest-clause-halts g c =
    let s = g.R.OreRing.sig c.args.ring.now in
    let r = c.args.r.now in
    let start = g.C.Chooser.given c.args.chooser.now in
    let chooser = c.reduce_elements.new.chooser in
    let given = g.C.Chooser.given chooser in
    let found = c.in_ok-found.ensures in
    let w = c.without_steps-outside in
    let block = c.in_ok-block-in-LeavesRest.block in
    let left =
    nonzero_found s g.C.Rule.allows g.C.Rule.allows_spent r c.args.links start given c.in_ok-found.found found.last found.before found.reduced found.left
    _ c.in-LeavesRest.rest c.in-LeavesRest.is w.result w.ensures.row w.ensures.steps block c.in_ok-block-in-LeavesRest.ensures.value in
    let e = err_from_is_err_and c.from_residual-in_err-certify-in-LeavesRest.result c.from_residual-in_err-certify-in-LeavesRest.ensures.1 in
    rw (e.1, e.2)
    (certified_halts s g.C.Rule.allows g.C.Rule.allows_spent (extension program s (row_matrix_of r) (resolution_of r c.args.links)) start given (row_matrix_of r) (ExtNonzero c.args.links w.result.row block) tt left (g.C.Chooser.settings chooser) _ c.in_err-certify-in-LeavesRest.ensures.formed)

pub returns-in_ok-certify-in-LeavesRest-clause-answered : goal.returns-in_ok-certify-in-LeavesRest-clause-answered
returns-in_ok-certify-in-LeavesRest-clause-answered g c =
    let s = g.R.OreRing.sig c.args.ring.now in
    let r = c.args.r.now in
    let start = g.C.Chooser.given c.args.chooser.now in
    let given = g.C.Chooser.given c.reduce_elements.new.chooser in
    let found = c.in_ok-found.ensures in
    let w = c.without_steps-outside in
    let block = c.in_ok-block-in-LeavesRest.block in
    let left =
    nonzero_found s g.C.Rule.allows g.C.Rule.allows_spent r c.args.links start given c.in_ok-found.found found.last found.before found.reduced found.left
    _ c.in-LeavesRest.rest c.in-LeavesRest.is w.result w.ensures.row w.ensures.steps block c.in_ok-block-in-LeavesRest.ensures.value in
    certified_as s g.C.Rule.allows g.C.Rule.allows_spent (extension program s (row_matrix_of r) (resolution_of r c.args.links)) start given (row_matrix_of r) (ExtNonzero c.args.links w.result.row block) tt left _ c.in_ok-certify-in-LeavesRest.ensures.formed
