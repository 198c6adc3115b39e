use Rattle.std.proofs.Common.{◌≡◌, ◌++◌, take}
use Rattle.std.specs.List.{flat_map}
use Rattle.ore_parts.specs.BlockText.{step_text}
use Rattle.ore_parts.proofs.print_block.append_steps.Given as goal

abbrev pub invariant-loop-k : goal.invariant-loop-k
invariant-loop-k l = l.out.items ≡ l.fn.out.items ++ flat_map (step_text l.algebra.names.now l.algebra.signature.now.order) (take l.k l.steps)
