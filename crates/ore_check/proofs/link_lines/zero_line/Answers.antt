use Rattle.std.proofs.Common.{refl, inl, sym, ap, ◌∙◌, subst}
use Rattle.ore_check.specs.InnerContracts.{AreSameLine}
use Rattle.ore_check.specs.Layout.{behind_links, linked_line, section_of, line_of, exact_layout}
use Rattle.ore_check.specs.declared.layout.Layout.{Layout}
use Rattle.ore_check.proofs.SameLines.{first_all, same_capped, exact_moves}
use Rattle.ore_check.proofs.link_lines.zero_line.Goals as goal

pub returns : goal.returns
returns c =
    let links = c.args.links.now in
    let block = c.args.block.now in
    let place = c.args.place in
    let first = c.behind_links-first.result in
    let line = line_of (exact_layout 0 (behind_links 3 links) block) block.pairs place in
    let same = subst (AreSameLine first) (first_all 3 links c.len.result c.len.ensures) c.behind_links-first.ensures.same in
    let mine = c.line_of-line.ensures ∙ ap (λ (l : Layout). line_of l block.pairs place) c.exact_layout.ensures.value in
    let moved = subst (λ n. AreSameLine n line) (sym mine) (exact_moves 0 0 first (behind_links 3 links) (inl refl) same block block.pairs place) in
    same_capped c.linked_line.result (linked_line links line place (section_of place)) (c.linked_line.ensures line moved)
