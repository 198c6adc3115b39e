use Rattle.std.proofs.Common.{◌+◌, sym, ap, ◌∙◌, subst, arith}
use Rattle.ore_check.specs.InnerContracts.{AreSameLine}
use Rattle.ore_check.specs.Layout.{behind_links, linked_line, section_of, line_of, outside_layout}
use Rattle.ore_check.specs.declared.layout.Layout.{Layout}
use Rattle.ore_check.proofs.SameLines.{first_all, same_capped, same_up, outside_moves}
use Rattle.ore_check.proofs.link_lines.nonzero_line.Goals as goal

pub returns : goal.returns
returns c = λ element.
    let links = c.args.links.now in
    let block = c.args.block.now in
    let place = c.args.place in
    let first = c.behind_links-first.result in
    let exact = behind_links 3 links in
    let line = line_of (outside_layout exact (exact + 2) block) block.pairs place in
    let same = subst (AreSameLine first) (first_all 3 links c.len.result c.len.ensures) c.behind_links-first.ensures.same in
    let mine = c.line_of-line.ensures ∙ ap (λ (l : Layout). line_of l block.pairs place) c.outside_layout.ensures.value in
    let moved = subst (λ n. AreSameLine n line) (sym mine) (outside_moves first exact (first + 2) (exact + 2) same (same_up first exact (λ n. n + 2) (λ n. omega arith) same) block block.pairs place) in
    same_capped c.linked_line.result (linked_line links line place (section_of place)) (c.linked_line.ensures line moved)
