use Rattle.std.proofs.Common.{◌≡◌, [], min, drop}
use Rattle.std.specs.Prelude.{pos}
use Rattle.std.specs.List.{flat_map}
use Rattle.ore_algebra.proofs.Integers.{integers}
use Rattle.ore_monomial.specs.Passing.{numbers_to}
use Rattle.ore_commute.specs.ClosedForm.{shifted_terms}
use Rattle.ore_commute.specs.Product.{checked}
use Rattle.ore_weyl.proofs.axis.Axis.pass.Given as goal

abbrev pub invariant-loop-k : goal.invariant-loop-k
invariant-loop-k l = checked l.out.items (flat_map (shifted_terms integers (pos 0) (l.self.coordinate, l.self.operator) l.self.left l.self.right l.terms) (drop l.k (numbers_to (min l.self.right l.self.left))))
    ≡ checked [] (flat_map (shifted_terms integers (pos 0) (l.self.coordinate, l.self.operator) l.self.left l.self.right l.terms) (numbers_to (min l.self.right l.self.left)))
