use Rattle.std.proofs.Common.{◌≡◌, ◌++◌, drop}
use Rattle.ore_ring.specs.Merge.{opposite_terms}
use Rattle.ore_ring.proofs.merge.extend_negated.Given as goal

abbrev pub invariant-loop-term : goal.invariant-loop-term
invariant-loop-term l = l.out.items ++ opposite_terms (drop l.term-index l.terms) ≡ l.initial.out.items ++ opposite_terms l.terms
