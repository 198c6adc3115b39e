use Rattle.std.proofs.Common.{◌≡◌, ◌++◌, take}
use Rattle.std.specs.List.{flat_map}
use Rattle.ore_parts.specs.BlockText.{entry_text}
use Rattle.ore_parts.proofs.print_block.append_entries.Given as goal

abbrev pub invariant-loop-k : goal.invariant-loop-k
invariant-loop-k l = l.out.items ≡ l.fn.out.items ++ flat_map (entry_text l.algebra.names.now l.algebra.signature.now.order) (take l.k l.pairs)
