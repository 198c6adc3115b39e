use Rattle.std.proofs.Common.{refl, inl, sym, subst, arith}
use Rattle.ore_check.specs.InnerContracts.{AreSameLine, behind_first}
use Rattle.ore_check.specs.Layout.{link_layout}
use Rattle.ore_check.proofs.SameLines.{same_trans, end_moves, first_next}
use Rattle.ore_check.proofs.link_lines.behind_links.Goals as goal

pub loop-n-init : goal.loop-n-init
unfolding behind_first
loop-n-init c = record { same = inl refl; low = omega arith }

pub loop-n-preserved : goal.loop-n-preserved
loop-n-preserved c =
    let links = c.args.links.now in
    let n = c.loop-n.n in
    let link = c.get.result.now in
    let before = behind_first 3 links n in
    record {
      same =
          subst (AreSameLine c.behind_link-line.result) (sym (first_next 3 links n link c.get.ensures))
          (same_trans c.behind_link-line.result (link_layout c.loop-n.line link).end (link_layout before link).end c.behind_link-line.ensures.same (end_moves c.loop-n.line before c.loop-n.invariant.same link));
      low = c.behind_link-line.ensures.low;
    }
