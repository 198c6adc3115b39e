-- Each variable of the code is a number of the definition: `a_is` says what `a` is, `left_fits` that `left` is in range.
use Rattle.std.proofs.Common.{◌≡◌, ◌/◌, pos, ◌+ℤ◌, ◌*ℤ◌, nat_abs, to_z, of_z, ap, ap₂, sym, ◌∙◌, subst, int_div, rules}
use Rattle.std.specs.Int.{w128}
use Rattle.ore_rational.specs.Gcd.{gcd}
use Rattle.ore_rational.specs.Fraction.{add, over}
use Rattle.ore_rational.proofs.FractionLaws.{sum_den-pos, sum_reduced, add-num, add-den, same_parts}
use Rattle.ore_rational.specs.Range.{InRange}
use Rattle.ore_rational.specs.Within.{sum_gcd, sum_num, sum_rest, sum_den}
use Rattle.ore_rational.proofs.Bounds.{sum-left, sum-right, sum-num, sum-den, sum_fits_from}
use Rattle.ore_rational.proofs.Stored.{read, read_same, pos_above}
use Rattle.ore_rational.proofs.Rational.wide_sum.Goals as goal
use Rattle.ore_rational.proofs.Rational.wide_sum.Goals.{After-quotient_of-numerator}

a_is : (c : After-quotient_of-numerator) → to_z w128 (of_z w128 c.numerator-a.result) ≡ c.args.self.num
a_is c = read _ c.numerator-a.type_inv ∙ c.numerator-a.ensures.value

b_is : (c : After-quotient_of-numerator) → to_z w128 (of_z w128 c.denominator-b.result) ≡ pos c.args.self.den
b_is c = read _ c.denominator-b.type_inv ∙ c.denominator-b.ensures.value

c_is : (c : After-quotient_of-numerator) → to_z w128 (of_z w128 c.numerator-c.result) ≡ c.args.other.num
c_is c = read _ c.numerator-c.type_inv ∙ c.numerator-c.ensures.value

d_is : (c : After-quotient_of-numerator) → to_z w128 (of_z w128 c.denominator-d.result) ≡ pos c.args.other.den
d_is c = read _ c.denominator-d.type_inv ∙ c.denominator-d.ensures.value

g_is : (c : After-quotient_of-numerator) → to_z w128 (of_z w128 c.common_divisor-g.result) ≡ pos (sum_gcd c.args.self c.args.other)
g_is c = read _ c.common_divisor-g.type_inv ∙ c.common_divisor-g.ensures.value ∙ ap₂ (λ x y. pos (gcd (nat_abs x) (nat_abs y))) (b_is c) (d_is c)

b_over_g_is : (c : After-quotient_of-numerator) → to_z w128 (of_z w128 c.quotient_of-b_over_g.result) ≡ pos (c.args.self.den / sum_gcd c.args.self c.args.other)
b_over_g_is c = read _ c.quotient_of-b_over_g.type_inv ∙ c.quotient_of-b_over_g.ensures ∙ ap₂ int_div (b_is c) (g_is c)

d_over_g_is : (c : After-quotient_of-numerator) → to_z w128 (of_z w128 c.quotient_of-d_over_g.result) ≡ pos (c.args.other.den / sum_gcd c.args.self c.args.other)
d_over_g_is c = read _ c.quotient_of-d_over_g.type_inv ∙ c.quotient_of-d_over_g.ensures ∙ ap₂ int_div (d_is c) (g_is c)

-- what a checked step gives: the range, and the value that is read again
left_fits : (c : After-quotient_of-numerator) → InRange (c.args.self.num *ℤ pos (c.args.other.den / sum_gcd c.args.self c.args.other))
left_fits c = subst InRange (ap₂ ◌*ℤ◌ (a_is c) (d_over_g_is c)) c.in-Ok.ensures.0

left_is : (c : After-quotient_of-numerator) → to_z w128 (of_z w128 c.in-Ok.left) ≡ c.args.self.num *ℤ pos (c.args.other.den / sum_gcd c.args.self c.args.other)
left_is c = read_same _ _ (c.in-Ok.ensures.1 ∙ ap₂ ◌*ℤ◌ (a_is c) (d_over_g_is c)) (left_fits c)

right_fits : (c : After-quotient_of-numerator) → InRange (c.args.other.num *ℤ pos (c.args.self.den / sum_gcd c.args.self c.args.other))
right_fits c = subst InRange (ap₂ ◌*ℤ◌ (c_is c) (b_over_g_is c)) c.in-Ok-checked_product.ensures.0

right_is : (c : After-quotient_of-numerator) → to_z w128 (of_z w128 c.in-Ok-checked_product.right) ≡ c.args.other.num *ℤ pos (c.args.self.den / sum_gcd c.args.self c.args.other)
right_is c = read_same _ _ (c.in-Ok-checked_product.ensures.1 ∙ ap₂ ◌*ℤ◌ (c_is c) (b_over_g_is c)) (right_fits c)

n_fits : (c : After-quotient_of-numerator) → InRange (sum_num c.args.self c.args.other)
n_fits c = subst InRange (ap₂ ◌+ℤ◌ (left_is c) (right_is c)) c.in-Ok-checked_sum.ensures.0

n_is : (c : After-quotient_of-numerator) → to_z w128 (of_z w128 c.in-Ok-checked_sum.n) ≡ sum_num c.args.self c.args.other
n_is c = read_same _ _ (c.in-Ok-checked_sum.ensures.1 ∙ ap₂ ◌+ℤ◌ (left_is c) (right_is c)) (n_fits c)

e_is : (c : After-quotient_of-numerator) → to_z w128 (of_z w128 c.common_divisor-e.result) ≡ pos (sum_rest c.args.self c.args.other)
e_is c = read _ c.common_divisor-e.type_inv ∙ c.common_divisor-e.ensures.value ∙ ap₂ (λ x y. pos (gcd (nat_abs x) (nat_abs y))) (n_is c) (g_is c)

d_over_e_is : (c : After-quotient_of-numerator) → to_z w128 (of_z w128 c.quotient_of-d_over_e.result) ≡ pos (c.args.other.den / sum_rest c.args.self c.args.other)
d_over_e_is c = read _ c.quotient_of-d_over_e.type_inv ∙ c.quotient_of-d_over_e.ensures ∙ ap₂ int_div (d_is c) (e_is c)

den_fits : (c : After-quotient_of-numerator) → InRange (pos (sum_den c.args.self c.args.other))
den_fits c = subst InRange (ap₂ ◌*ℤ◌ (b_over_g_is c) (d_over_e_is c)) c.in-Ok-checked_product-2.ensures.0

den_is : (c : After-quotient_of-numerator) → to_z w128 (of_z w128 c.in-Ok-checked_product-2.denominator) ≡ pos (sum_den c.args.self c.args.other)
den_is c = read_same _ _ (c.in-Ok-checked_product-2.ensures.1 ∙ ap₂ ◌*ℤ◌ (b_over_g_is c) (d_over_e_is c)) (den_fits c)

num_is : (c : After-quotient_of-numerator) → to_z w128 (of_z w128 c.quotient_of-numerator.result) ≡ over (sum_num c.args.self c.args.other) (sum_rest c.args.self c.args.other)
num_is c = read _ c.quotient_of-numerator.type_inv ∙ c.quotient_of-numerator.ensures ∙ ap₂ int_div (n_is c) (e_is c)

pub from_parts-requires-clause-above : goal.from_parts-requires-clause-above
from_parts-requires-clause-above c = rw (den_is c) (pos_above _ (sum_den-pos c.args.self c.args.other))

pub from_parts-requires-clause-lowest : goal.from_parts-requires-clause-lowest
from_parts-requires-clause-lowest c = rw (num_is c, den_is c) (sum_reduced c.args.self c.args.other)

pub returns : goal.returns
returns c =
    let d = (goal.at.returns c).After-quotient_of-numerator in
    let p = c.args.self in
    let q = c.args.other in (
      sum_fits_from p q (left_fits d) (right_fits d) (n_fits d) (den_fits d),
      same_parts c.from_parts.result (add p q) (c.from_parts.ensures.numerator_is ∙ num_is d ∙ sym (add-num p q)) (c.from_parts.ensures.denominator_is ∙ den_is d ∙ ap pos (sym (add-den p q))),
    )

pub returns-in_default : goal.returns-in_default
returns-in_default c s = let h = sum-left _ _ s in grind (rules, h)

pub returns-in_default-checked_product : goal.returns-in_default-checked_product
returns-in_default-checked_product c s = let h = sum-right _ _ s in grind (rules, h)

pub returns-in_default-checked_sum : goal.returns-in_default-checked_sum
returns-in_default-checked_sum c s = let h = sum-num _ _ s in grind (rules, h)

pub returns-in_default-checked_product-2 : goal.returns-in_default-checked_product-2
returns-in_default-checked_product-2 c s = let h = sum-den _ _ s in grind (rules, h)
