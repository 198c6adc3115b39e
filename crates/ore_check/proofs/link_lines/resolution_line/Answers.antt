use Rattle.std.proofs.Common.{subst}
use Rattle.ore_check.specs.InnerContracts.{AreSameLine}
use Rattle.ore_check.specs.Layout.{behind_links, linked_line, section_of}
use Rattle.ore_check.proofs.SameLines.{first_all, same_capped}
use Rattle.ore_check.proofs.link_lines.resolution_line.Goals as goal

pub returns : goal.returns
returns c =
    let links = c.args.links.now in
    let same = subst (AreSameLine c.behind_links.result) (first_all 3 links c.len.result c.len.ensures) c.behind_links.ensures.same in
    same_capped c.linked_line.result (linked_line links (behind_links 3 links) c.args.place (section_of c.args.place)) (c.linked_line.ensures (behind_links 3 links) same)
