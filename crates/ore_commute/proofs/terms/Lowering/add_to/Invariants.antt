use Rattle.std.proofs.Common.{◌≡◌, map, drop}
use Rattle.ore_commute.specs.Product.{divided, checked}
use Rattle.ore_commute.proofs.terms.Lowering.add_to.Given as goal

abbrev pub invariant-loop-term : goal.invariant-loop-term
invariant-loop-term l = checked l.out.items (map (divided l.self.divisor l.self.factor) (drop l.term-index l.terms)) ≡ checked l.initial.out.items (map (divided l.self.divisor l.self.factor) l.terms)
