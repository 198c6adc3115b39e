-- `a` and `b` are the parts of the fraction; in either branch the two numbers are the parts of its inverse.
use Rattle.std.proofs.Common.{◌≡◌, ◌<◌, ◌^◌, ℤ, pos, ◌<ℤ◌, ◌≤ℤ◌, ◌-ℤ◌, neg_ℤ, to_z, of_z, sym, ◌∙◌, subst, arith}
use Rattle.std.proofs.lemmas.Int.{ints}
use Rattle.std.specs.Int.{w128}
use Rattle.std.proofs.lemmas.Nat.Gcd.{IsGcd-swap}
use Rattle.ore_rational.specs.Fraction.{inverse, abs-neg}
use Rattle.ore_rational.proofs.FractionLaws.{same_parts}
use Rattle.ore_rational.specs.Range.{InRange}
use Rattle.ore_rational.proofs.Stored.{read, read_same, pos_above}
use Rattle.ore_rational.proofs.Reciprocals.{inverse_negative, inverse_positive}
use Rattle.ore_rational.proofs.Rational.reciprocal.Goals as goal
use Rattle.ore_rational.proofs.Rational.reciprocal.Goals.{After-denominator-b, Then-a-lt0, Else-a-lt0}

a_is : (c : After-denominator-b) → to_z w128 (of_z w128 c.numerator-a.result) ≡ c.args.self.num
a_is c = read _ c.numerator-a.type_inv ∙ c.numerator-a.ensures.value

b_is : (c : After-denominator-b) → to_z w128 (of_z w128 c.denominator-b.result) ≡ pos c.args.self.den
b_is c = read _ c.denominator-b.type_inv ∙ c.denominator-b.ensures.value

minus_is : (x y : ℤ) → to_z w128 (of_z w128 x) ≡ y → InRange y → to_z w128 (of_z w128 (pos 0 -ℤ to_z w128 (of_z w128 x))) ≡ neg_ℤ y
minus_is x y e h = rw e (read_same _ _ (let z : pos 0 -ℤ y ≡ neg_ℤ y = omega (arith, ints) in z) (subst (λ n. n < 2 ^ 127) (sym (abs-neg y)) h))

minus_a : (c : After-denominator-b) → to_z w128 (of_z w128 (pos 0 -ℤ to_z w128 (of_z w128 c.numerator-a.result))) ≡ neg_ℤ c.args.self.num
minus_a c = minus_is c.numerator-a.result c.args.self.num (a_is c) (subst InRange c.numerator-a.ensures.value c.numerator-a.ensures.range)

minus_b : (c : After-denominator-b) → to_z w128 (of_z w128 (pos 0 -ℤ to_z w128 (of_z w128 c.denominator-b.result))) ≡ neg_ℤ (pos c.args.self.den)
minus_b c = minus_is c.denominator-b.result (pos c.args.self.den) (b_is c) (subst InRange c.denominator-b.ensures.value c.denominator-b.ensures.range)

negative : (c : Then-a-lt0) → c.args.self.num <ℤ pos 0
negative c = let h = rw (a_is (goal.at.from_parts-requires-clause-lowest c).After-denominator-b) at c.if-a-lt0.true in omega (arith, ints, h)

not_negative : (c : Else-a-lt0) → pos 0 ≤ℤ c.args.self.num
not_negative c = let h = rw (a_is (goal.at.from_parts-requires-else-a-lt0-clause-lowest c).After-denominator-b) at c.if-a-lt0.false in omega (arith, ints, h)

pub from_parts-requires-clause-lowest : goal.from_parts-requires-clause-lowest
from_parts-requires-clause-lowest c =
    let d = (goal.at.from_parts-requires-clause-lowest c).After-denominator-b in
    let p = c.args.self in
    let e = inverse_negative p (negative c) in
    rw (minus_b d, minus_a d, ← e.0, ← e.1) (inverse p).reduced

pub from_parts-requires-else-a-lt0-clause-above : goal.from_parts-requires-else-a-lt0-clause-above
from_parts-requires-else-a-lt0-clause-above c =
    let d = (goal.at.from_parts-requires-else-a-lt0-clause-above c).After-denominator-b in
    let e = inverse_positive c.args.self c.requires (not_negative c) in
    rw (a_is d, ← e.1) (pos_above _ (inverse c.args.self).positive)

pub from_parts-requires-else-a-lt0-clause-lowest : goal.from_parts-requires-else-a-lt0-clause-lowest
from_parts-requires-else-a-lt0-clause-lowest c =
    let d = (goal.at.from_parts-requires-else-a-lt0-clause-lowest c).After-denominator-b in
    rw (b_is d, a_is d) (IsGcd-swap _ _ _ c.args.self.reduced)

pub returns-then-a-lt0 : goal.returns-then-a-lt0
returns-then-a-lt0 c =
    let t = (goal.at.returns-then-a-lt0 c).Then-a-lt0 in
    let d = (goal.at.returns-then-a-lt0 c).After-denominator-b in
    let e = inverse_negative c.args.self (negative t) in
    same_parts c.from_parts.result (inverse c.args.self) (c.from_parts.ensures.numerator_is ∙ minus_b d ∙ sym e.0) (c.from_parts.ensures.denominator_is ∙ minus_a d ∙ sym e.1)

pub returns-else-a-lt0 : goal.returns-else-a-lt0
returns-else-a-lt0 c =
    let t = (goal.at.returns-else-a-lt0 c).Else-a-lt0 in
    let d = (goal.at.returns-else-a-lt0 c).After-denominator-b in
    let e = inverse_positive c.args.self c.requires (not_negative t) in
    same_parts c.from_parts-else-a-lt0.result (inverse c.args.self) (c.from_parts-else-a-lt0.ensures.numerator_is ∙ b_is d ∙ sym e.0) (c.from_parts-else-a-lt0.ensures.denominator_is ∙ a_is d ∙ sym e.1)
