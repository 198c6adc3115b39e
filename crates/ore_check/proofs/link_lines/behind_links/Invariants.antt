use Rattle.std.proofs.Common.{◌≤◌, ◌^◌}
use Rattle.ore_check.specs.InnerContracts.{AreSameLine, behind_first}
use Rattle.ore_check.proofs.link_lines.behind_links.Given as goal

abbrev pub invariant-loop-n : goal.invariant-loop-n
invariant-loop-n l = record {
  same : AreSameLine l.line (behind_first 3 l.links l.n);
  low : l.line ≤ 2 ^ 65;
}
