use Rattle.std.proofs.Common.{◌≡◌}
use Rattle.ore_ring.proofs.Negated.{negated_to}
use Rattle.ore_ring.proofs.op.negate.Given as goal

abbrev pub invariant-loop-term : goal.invariant-loop-term
invariant-loop-term l = l.term-items ≡ negated_to l.term-index l.fn.terms.items
