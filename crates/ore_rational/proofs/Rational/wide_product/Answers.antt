-- Each variable of the code is a number of the reduced product: `g_is` says what `g` is.
use Rattle.std.proofs.Common.{◌≡◌, pos, ◌*ℤ◌, nat_abs, to_z, of_z, ap, ap₂, sym, ◌∙◌, subst, int_div}
use Rattle.std.specs.Int.{w128}
use Rattle.ore_rational.specs.Gcd.{gcd}
use Rattle.ore_rational.specs.Fraction.{mul}
use Rattle.ore_rational.proofs.FractionLaws.{first_gcd, second_gcd, product_num, product_den, product_den-pos, product_reduced, mul-num, mul-den, same_parts}
use Rattle.ore_rational.specs.Range.{InRange}
use Rattle.ore_rational.proofs.Bounds.{fits-num, fits-den, fits_from}
use Rattle.ore_rational.proofs.Stored.{read, read_same, pos_above}
use Rattle.ore_rational.proofs.Rational.wide_product.Goals as goal
use Rattle.ore_rational.proofs.Rational.wide_product.Goals.{After-quotient_of-d_over_g, In-Ok-checked_product}

g_is : (c : After-quotient_of-d_over_g) → c.common_divisor-g.result ≡ pos (first_gcd c.args.self c.args.other)
g_is c =
    c.common_divisor-g.ensures.value
    ∙ ap₂ (λ x y. pos (gcd (nat_abs x) (nat_abs y))) (read _ c.numerator-a.type_inv ∙ c.numerator-a.ensures.value) (read _ c.denominator-d.type_inv ∙ c.denominator-d.ensures.value)

h_is : (c : After-quotient_of-d_over_g) → c.common_divisor-h.result ≡ pos (second_gcd c.args.self c.args.other)
h_is c =
    c.common_divisor-h.ensures.value
    ∙ ap₂ (λ x y. pos (gcd (nat_abs x) (nat_abs y))) (read _ c.numerator-c.type_inv ∙ c.numerator-c.ensures.value) (read _ c.denominator-b.type_inv ∙ c.denominator-b.ensures.value)

num_is : (c : After-quotient_of-d_over_g) → to_z w128 (of_z w128 c.quotient_of-a_over_g.result) *ℤ to_z w128 (of_z w128 c.quotient_of-c_over_h.result) ≡ product_num c.args.self c.args.other
num_is c =
    ap₂ ◌*ℤ◌
    (read _ c.quotient_of-a_over_g.type_inv ∙ c.quotient_of-a_over_g.ensures ∙ ap₂ int_div (read _ c.numerator-a.type_inv ∙ c.numerator-a.ensures.value) (read _ c.common_divisor-g.type_inv ∙ g_is c))
    (read _ c.quotient_of-c_over_h.type_inv ∙ c.quotient_of-c_over_h.ensures ∙ ap₂ int_div (read _ c.numerator-c.type_inv ∙ c.numerator-c.ensures.value) (read _ c.common_divisor-h.type_inv ∙ h_is c))

den_is : (c : After-quotient_of-d_over_g) → to_z w128 (of_z w128 c.quotient_of-b_over_h.result) *ℤ to_z w128 (of_z w128 c.quotient_of-d_over_g.result) ≡ pos (product_den c.args.self c.args.other)
den_is c =
    ap₂ ◌*ℤ◌
    (read _ c.quotient_of-b_over_h.type_inv ∙ c.quotient_of-b_over_h.ensures ∙ ap₂ int_div (read _ c.denominator-b.type_inv ∙ c.denominator-b.ensures.value) (read _ c.common_divisor-h.type_inv ∙ h_is c))
    (read _ c.quotient_of-d_over_g.type_inv ∙ c.quotient_of-d_over_g.ensures ∙ ap₂ int_div (read _ c.denominator-d.type_inv ∙ c.denominator-d.ensures.value) (read _ c.common_divisor-g.type_inv ∙ g_is c))

pub returns-in_default : goal.returns-in_default
returns-in_default c s = c.in_default.ensures (subst InRange (mul-num c.args.self c.args.other ∙ sym (num_is (goal.at.returns-in_default c).After-quotient_of-d_over_g)) (fits-num _ s))

pub returns-in_default-checked_product : goal.returns-in_default-checked_product
returns-in_default-checked_product c s =
    c.in_default-checked_product.ensures (subst InRange (ap pos (mul-den c.args.self c.args.other) ∙ sym (den_is (goal.at.returns-in_default-checked_product c).After-quotient_of-d_over_g)) (fits-den _ s))

-- what the two numbers of the result are
numerator_is : (c : In-Ok-checked_product) → to_z w128 (of_z w128 c.in-Ok.numerator) ≡ product_num c.args.self c.args.other
numerator_is c = let d = (goal.at.from_parts-requires-clause-above c).After-quotient_of-d_over_g in read_same _ _ (c.in-Ok.ensures.1 ∙ num_is d) (subst InRange (num_is d) c.in-Ok.ensures.0)

denominator_is : (c : In-Ok-checked_product) → to_z w128 (of_z w128 c.in-Ok-checked_product.denominator) ≡ pos (product_den c.args.self c.args.other)
denominator_is c = let d = (goal.at.from_parts-requires-clause-above c).After-quotient_of-d_over_g in read_same _ _ (c.in-Ok-checked_product.ensures.1 ∙ den_is d) (subst InRange (den_is d) c.in-Ok-checked_product.ensures.0)

pub from_parts-requires-clause-above : goal.from_parts-requires-clause-above
from_parts-requires-clause-above c = rw (denominator_is c) (pos_above _ (product_den-pos c.args.self c.args.other))

pub from_parts-requires-clause-lowest : goal.from_parts-requires-clause-lowest
from_parts-requires-clause-lowest c = rw (numerator_is c, denominator_is c) (product_reduced c.args.self c.args.other)

pub returns : goal.returns
returns c =
    let e = (goal.at.returns c).In-Ok-checked_product in
    let d = (goal.at.returns c).After-quotient_of-d_over_g in
    let p = c.args.self in
    let q = c.args.other in (
      fits_from (mul p q) (subst InRange (num_is d ∙ sym (mul-num p q)) c.in-Ok.ensures.0) (subst InRange (den_is d ∙ ap pos (sym (mul-den p q))) c.in-Ok-checked_product.ensures.0),
      same_parts c.from_parts.result (mul p q) (c.from_parts.ensures.numerator_is ∙ numerator_is e ∙ sym (mul-num p q)) (c.from_parts.ensures.denominator_is ∙ denominator_is e ∙ ap pos (sym (mul-den p q))),
    )
