use Rattle.std.proofs.Common.{◌≡◌, ◌+◌, ◌≤◌, [], ◌∷◌, length, refl, sym, ap, ◌∙◌, subst, arith}
use Rattle.std.specs.List.{All}
use Rattle.std.proofs.lemmas.List.{length-append}
use Rattle.std.proofs.lemmas.List.Elements.{All-nil, All-push}
use Rattle.std.proofs.lemmas.Result.{err_from_is_err_and}
use Rattle.ore_algebra.specs.Limits.{program}
use Rattle.ore_parts.specs.OfSignature.{IsLinkOf}
use Rattle.ore_blocks.specs.CheckBlock.{row_matrix_of}
use Rattle.ore_check.specs.Plans.{resolution}
use Rattle.ore_check.proofs.LinkConditions.{found_of}
use Rattle.ore_syzygy.proofs.FollowedKernels.{memory_halts}
use Rattle.ore_resolution.proofs.FollowedLinks.{fits_pushed, begun, link_halts, link_found, all_found}
use Rattle.ore_resolution.proofs.links.find_links.Goals as goal

pub loop-k-init : goal.loop-k-init
loop-k-init g c =
    let s = g.R.OreRing.sig c.args.ring.now in
    let links = c.new-links.result.items in
    let none : length links ≡ 0 = ap length c.new-links.ensures.items in
    record {
      led = begun s g.C.Rule.allows g.C.Rule.allows_spent c.args.r.now c.args.count (g.C.Chooser.given c.args.chooser.now) links c.new-links.ensures.items;
      of = subst (All (IsLinkOf s)) (sym c.new-links.ensures.items) (All-nil (IsLinkOf s));
      many = none;
      few = omega arith;
      fits = λ some. absurd (omega (arith, none, some));
      within_budget = λ h. h;
      settings = refl;
    }

pub next_link-requires : goal.next_link-requires
next_link-requires g c =
    let links = c.loop-k.links.items in
    found_of (g.R.OreRing.sig c.args.ring.now) c.args.r.now links (length links) c.last_matrix.result.now c.last_matrix.ensures c.requires c.loop-k.invariant.of

pub returns-in_err-link-clause-halts : goal.returns-in_err-link-clause-halts
returns-in_err-link-clause-halts g c =
    let at = c.loop-k in
    let chooser = c.next_link.new.chooser in
    let e = err_from_is_err_and c.from_residual.result c.from_residual.ensures.1 in
    rw (e.1, e.2)
    (link_halts (g.R.OreRing.sig c.args.ring.now) g.C.Rule.allows g.C.Rule.allows_spent c.args.r.now c.args.count (g.C.Chooser.given c.args.chooser.now) (g.C.Chooser.given c.loop-k.chooser) at.k at.links.items c.loop-k-test.true at.invariant.led
    c.last_matrix.result.now c.last_matrix.ensures (g.C.Chooser.given chooser) (g.C.Chooser.settings chooser) _ c.in_err-link.ensures.halts)

pub returns-in_default-clause-halts : goal.returns-in_default-clause-halts
returns-in_default-clause-halts g c =
    let s = g.R.OreRing.sig c.args.ring.now in
    memory_halts s g.C.Rule.allows g.C.Rule.allows_spent (resolution program s c.args.count (row_matrix_of c.args.r.now)) _ _ (g.C.Chooser.settings c.next_link.new.chooser)

pub loop-k-preserved : goal.loop-k-preserved
loop-k-preserved g c =
    let s = g.R.OreRing.sig c.args.ring.now in
    let at = c.loop-k in
    let links = c.loop-k.links.items in
    let link = c.in_ok-link.link in
    let found = c.in_ok-link.ensures in
    let pushed = c.in-Ok.ensures.items in
    let more : length c.push.new.self.items ≡ length links + 1 = ap length pushed ∙ length-append links (link ∷ []) in
    record {
      led =
          link_found s g.C.Rule.allows g.C.Rule.allows_spent c.args.r.now c.args.count (g.C.Chooser.given c.args.chooser.now) (g.C.Chooser.given c.loop-k.chooser) at.k links c.loop-k-test.true at.invariant.led
          c.last_matrix.result.now c.last_matrix.ensures (g.C.Chooser.given c.next_link.new.chooser) link found.answered c.push.new.self.items pushed;
      of = subst (All (IsLinkOf s)) (sym pushed) (All-push (IsLinkOf s) links link at.invariant.of found.of);
      many = more ∙ ap (λ n. n + 1) at.invariant.many;
      few = omega (arith, c.loop-k-test.true);
      fits = λ some. fits_pushed c.args.r.now links link c.push.new.self.items pushed c.last_matrix.result.now c.last_matrix.ensures found.fits;
      within_budget = λ h. c.next_link.ensures.within_budget (at.invariant.within_budget h);
      settings = c.next_link.ensures.settings ∙ at.invariant.settings;
    }

pub returns-clause-of : goal.returns-clause-of
returns-clause-of g c = subst (All (IsLinkOf (g.R.OreRing.sig c.args.ring.now))) (sym c.from_vec.ensures) c.loop-k.invariant.of

pub returns-clause-answered : goal.returns-clause-answered
returns-clause-answered g c =
    let at = c.loop-k in
    let over : c.args.count ≤ c.loop-k.k = omega (arith, c.loop-k-test.false) in
    all_found (g.R.OreRing.sig c.args.ring.now) g.C.Rule.allows g.C.Rule.allows_spent c.args.r.now c.args.count (g.C.Chooser.given c.args.chooser.now) (g.C.Chooser.given c.loop-k.chooser) at.k at.links.items c.from_vec.result c.from_vec.ensures over
    at.invariant.led
