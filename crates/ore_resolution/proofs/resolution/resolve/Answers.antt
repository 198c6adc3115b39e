use Rattle.std.proofs.lemmas.Result.{err_from_is_err_and}
use Rattle.ore_algebra.specs.Limits.{program}
use Rattle.ore_cert.specs.declared.certificate.Certificate.TheVariants.{Resolution as Resolved}
use Rattle.ore_blocks.specs.CheckBlock.{row_matrix_of}
use Rattle.ore_check.specs.Plans.{resolve}
use Rattle.ore_check.proofs.LastWork.{certified_halts, certified_as}
use Rattle.ore_syzygy.proofs.RunKernels.{matrix_of}
use Rattle.ore_resolution.specs.Stored.{resolution_of}
use Rattle.ore_resolution.proofs.FollowedLinks.{resolve_halts, resolve_found, resolved_right}
use Rattle.ore_resolution.proofs.resolution.resolve.Goals as goal

pub returns-in_err-links-clause-halts : goal.returns-in_err-links-clause-halts
returns-in_err-links-clause-halts g c =
    let chooser = c.find_links.new.chooser in
    let e = err_from_is_err_and c.from_residual.result c.from_residual.ensures.1 in
    rw (e.1, e.2) (resolve_halts (g.R.OreRing.sig c.args.ring.now) g.C.Rule.allows g.C.Rule.allows_spent c.args.r.now c.args.count (g.C.Chooser.given c.args.chooser.now) (g.C.Chooser.given chooser) (g.C.Chooser.settings chooser) _ c.in_err-links.ensures.halts)

pub returns-in_err-certify-clause-halts : goal.returns-in_err-certify-clause-halts
returns-in_err-certify-clause-halts g c =
    let s = g.R.OreRing.sig c.args.ring.now in
    let r = c.args.r.now in
    let n = c.args.count in
    let before = g.C.Chooser.given c.args.chooser.now in
    let given = g.C.Chooser.given c.find_links.new.chooser in
    let links = c.in_ok-links.links in
    let found = resolve_found s g.C.Rule.allows g.C.Rule.allows_spent r n before given (resolution_of r links) c.in_ok-links.ensures.answered in
    let e = err_from_is_err_and c.from_residual-in_err-certify.result c.from_residual-in_err-certify.ensures.1 in
    rw (e.1, e.2)
    (certified_halts s g.C.Rule.allows g.C.Rule.allows_spent (resolve program s n (row_matrix_of r)) before given (row_matrix_of r) (Resolved links) tt found (g.C.Chooser.settings c.find_links.new.chooser) _ c.in_err-certify.ensures.formed)

pub returns-clause-answered : goal.returns-clause-answered
returns-clause-answered g c =
    let s = g.R.OreRing.sig c.args.ring.now in
    let r = c.args.r.now in
    let n = c.args.count in
    let before = g.C.Chooser.given c.args.chooser.now in
    let given = g.C.Chooser.given c.find_links.new.chooser in
    let links = c.in_ok-links.links in
    let found = resolve_found s g.C.Rule.allows g.C.Rule.allows_spent r n before given (resolution_of r links) c.in_ok-links.ensures.answered in
    certified_as s g.C.Rule.allows g.C.Rule.allows_spent (resolve program s n (row_matrix_of r)) before given (row_matrix_of r) (Resolved links) tt found _ c.in_ok-certify.ensures.formed

pub returns-clause-correct : goal.returns-clause-correct
returns-clause-correct g c =
    let s = g.R.OreRing.sig c.args.ring.now in
    let r = c.args.r.now in
    let of = matrix_of s r c.cols-cols.result c.cols-cols.ensures.fits c.cols-cols.ensures.value c.requires.of in
    resolved_right s g.C.Rule.allows g.C.Rule.allows_spent r c.args.count (g.C.Chooser.given c.args.chooser.now) c.requires.count of (g.C.Chooser.given c.find_links.new.chooser) _ (returns-clause-answered g c)
