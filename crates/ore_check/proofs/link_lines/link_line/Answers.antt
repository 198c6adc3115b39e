use Rattle.std.proofs.Common.{length, sym, ap, ◌∙◌, ◌≤◌, subst, arith}
use Rattle.ore_check.specs.InnerContracts.{AreSameLine, behind_first}
use Rattle.ore_check.specs.Layout.{link_layout, link_line, line_of}
use Rattle.ore_check.specs.declared.layout.Layout.{Layout}
use Rattle.ore_check.proofs.SameLines.{link_moves, line_there, line_past}
use Rattle.ore_check.proofs.link_lines.link_line.Goals as goal

pub returns-then-i-len : goal.returns-then-i-len
returns-then-i-len c =
    let links = c.args.links.now in
    let past : length links ≤ c.args.i = omega arith in
    let all = ap (behind_first 3 links) c.len-then-i-len.ensures ∙ sym (line_past 3 links c.args.i c.args.place past) in
    subst (AreSameLine c.behind_links.result) all c.behind_links.ensures.same

pub returns : goal.returns
returns c =
    let links = c.args.links.now in
    let link = c.get-link.result.now in
    let first = behind_first 3 links c.args.i in
    let line = c.behind_links-2.result in
    let there = sym (line_there 3 links c.args.i link c.args.place c.get-link.ensures) in
    let mine = c.line_of.ensures ∙ ap (λ (l : Layout). line_of l link.block.pairs c.args.place) c.link_layout-layout.ensures.value in
    let exact = link_line 3 links c.args.i c.args.place in
    subst (λ n. AreSameLine n exact) (sym mine) (subst (AreSameLine (line_of (link_layout line link) link.block.pairs c.args.place)) there (link_moves line first c.behind_links-2.ensures.same link link.block.pairs c.args.place))
