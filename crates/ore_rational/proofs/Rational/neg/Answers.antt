-- The numerator with the other sign, and the same denominator, are the parts of the opposite.
use Rattle.std.proofs.Common.{◌≡◌, ℤ, pos, ap, ◌∙◌, sym, arith, subst, neg_ℤ, ◌-ℤ◌, to_z, of_z, ◌<◌, ◌^◌}
use Rattle.std.specs.Int.{w128}
use Rattle.std.proofs.lemmas.Int.{ints}
use Rattle.ore_rational.specs.Fraction.{abs-neg}
use Rattle.ore_rational.proofs.FractionLaws.{neg-num, neg-den, same_parts}
use Rattle.ore_rational.specs.Range.{InRange}
use Rattle.ore_rational.proofs.Stored.{read, read_same}
use Rattle.ore_rational.proofs.Rational.neg.Goals as goal
use Rattle.ore_rational.proofs.Rational.neg.Goals.{After-denominator}

zero-sub : (z : ℤ) → pos 0 -ℤ z ≡ neg_ℤ z
zero-sub z = omega (arith, ints)

numerator_is : (c : After-denominator) → to_z w128 (of_z w128 (pos 0 -ℤ to_z w128 (of_z w128 c.numerator.result))) ≡ neg_ℤ c.args.self.num
numerator_is c =
    let e : to_z w128 (of_z w128 c.numerator.result) ≡ c.args.self.num = read _ c.numerator.type_inv ∙ c.numerator.ensures.value in
    rw e (read_same _ _ (zero-sub c.args.self.num) (subst (λ n. n < 2 ^ 127) (sym (abs-neg c.args.self.num)) (subst InRange c.numerator.ensures.value c.numerator.ensures.range)))

denominator_is : (c : After-denominator) → to_z w128 (of_z w128 c.denominator.result) ≡ pos c.args.self.den
denominator_is c = read _ c.denominator.type_inv ∙ c.denominator.ensures.value

pub from_parts-requires-clause-lowest : goal.from_parts-requires-clause-lowest
from_parts-requires-clause-lowest c = rw (numerator_is c, denominator_is c, abs-neg c.args.self.num) c.args.self.reduced

pub returns : goal.returns
returns c =
    let d = (goal.at.returns c).After-denominator in
    same_parts c.from_parts.result _ (c.from_parts.ensures.numerator_is ∙ numerator_is d ∙ sym (neg-num c.args.self)) (c.from_parts.ensures.denominator_is ∙ denominator_is d ∙ ap pos (sym (neg-den c.args.self)))
