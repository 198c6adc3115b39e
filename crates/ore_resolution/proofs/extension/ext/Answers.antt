use Rattle.std.proofs.lemmas.Result.{err_from_is_err_and, IfOk-weaker, IfErr-weaker}
use Rattle.ore_syzygy.proofs.RunKernels.{matrix_of}
use Rattle.ore_resolution.specs.Stored.{resolution_of}
use Rattle.ore_resolution.proofs.FollowedLinks.{ext_links_halt, ext_halts, ext_answered, extended_right}
use Rattle.ore_resolution.proofs.extension.ext.Goals as goal

pub returns-in_err-links-clause-halts : goal.returns-in_err-links-clause-halts
returns-in_err-links-clause-halts g c =
    let chooser = c.find_links.new.chooser in
    let e = err_from_is_err_and c.from_residual.result c.from_residual.ensures.1 in
    rw (e.1, e.2) (ext_links_halt (g.R.OreRing.sig c.args.ring.now) g.C.Rule.allows g.C.Rule.allows_spent c.args.r.now c.args.place (g.C.Chooser.given c.args.chooser.now) (g.C.Chooser.given chooser) (g.C.Chooser.settings chooser) _ c.in_err-links.ensures.halts)

pub returns-clause-answered : goal.returns-clause-answered
returns-clause-answered g c =
    let mid = g.C.Chooser.given c.find_links.new.chooser in
    IfOk-weaker c.behind_links.result _ _
    (ext_answered (g.R.OreRing.sig c.args.ring.now) g.C.Rule.allows g.C.Rule.allows_spent c.args.r.now c.args.place (g.C.Chooser.given c.args.chooser.now) mid (resolution_of c.args.r.now c.in_ok-links.links) c.in_ok-links.ensures.answered (g.C.Chooser.given c.behind_links.new.chooser))
    c.behind_links.ensures.answered

pub returns-clause-halts : goal.returns-clause-halts
returns-clause-halts g c =
    let mid = g.C.Chooser.given c.find_links.new.chooser in
    let chooser = c.behind_links.new.chooser in
    IfErr-weaker c.behind_links.result _ _
    (ext_halts (g.R.OreRing.sig c.args.ring.now) g.C.Rule.allows g.C.Rule.allows_spent c.args.r.now c.args.place (g.C.Chooser.given c.args.chooser.now) mid (resolution_of c.args.r.now c.in_ok-links.links) c.in_ok-links.ensures.answered (g.C.Chooser.given chooser) (g.C.Chooser.settings chooser))
    c.behind_links.ensures.halts

pub returns-clause-correct : goal.returns-clause-correct
returns-clause-correct g c =
    let s = g.R.OreRing.sig c.args.ring.now in
    let r = c.args.r.now in
    let of = matrix_of s r c.cols-cols.result c.cols-cols.ensures.fits c.cols-cols.ensures.value c.requires.of in
    IfOk-weaker c.behind_links.result _ _
    (extended_right s g.C.Rule.allows g.C.Rule.allows_spent r c.args.place (g.C.Chooser.given c.args.chooser.now) c.requires.place of (g.C.Chooser.given c.behind_links.new.chooser))
    (returns-clause-answered g c)
