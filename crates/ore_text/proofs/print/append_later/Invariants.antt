use Rattle.std.proofs.Common.{◌≡◌, ◌++◌, drop}
use Rattle.std.specs.List.{flat_map}
use Rattle.ore_ring.specs.Terms.{falling}
use Rattle.ore_text.specs.CanonicalText.{later_text}
use Rattle.ore_text.proofs.print.append_later.Given as goal

abbrev pub invariant-loop-k : goal.invariant-loop-k
invariant-loop-k l = l.text.items ++ flat_map (later_text l.algebra.names.now) (drop l.k (falling l.op.by l.op.sum)) ≡ l.fn.text.items ++ flat_map (later_text l.algebra.names.now) (drop 1 (falling l.op.by l.op.sum))
