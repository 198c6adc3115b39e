use Rattle.std.proofs.Common.{◌≡◌, ◌++◌, take}
use Rattle.std.specs.List.{flat_map}
use Rattle.ore_cert.specs.WholeText.{link_text}
use Rattle.ore_cert.proofs.print_whole.append_links.Given as goal

abbrev pub invariant-loop-k : goal.invariant-loop-k
invariant-loop-k l = l.out.items ≡ l.fn.out.items ++ flat_map (link_text l.algebra.names.now l.algebra.signature.now.order) (take l.k l.links)
