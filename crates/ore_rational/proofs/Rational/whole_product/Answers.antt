-- `n` is the product of the numerators, which alone decides whether the product fits.
use Rattle.std.proofs.Common.{◌≡◌, ◌*ℤ◌, to_z, of_z, ap, ap₂, sym, ◌∙◌, subst}
use Rattle.std.specs.Int.{w128}
use Rattle.ore_rational.specs.Fraction.{whole}
use Rattle.ore_rational.specs.Range.{InRange}
use Rattle.ore_rational.proofs.FractionLaws.{same_parts}
use Rattle.ore_rational.proofs.Stored.{read, read_range}
use Rattle.ore_rational.proofs.Whole.{product_range, product_fits_whole, mul-whole}
use Rattle.ore_rational.proofs.Rational.whole_product.Goals as goal
use Rattle.ore_rational.proofs.Rational.whole_product.Goals.{After-checked_product}

product_is : (c : After-checked_product) → to_z w128 (of_z w128 c.numerator.result) *ℤ to_z w128 (of_z w128 c.numerator-2.result) ≡ c.args.self.num *ℤ c.args.other.num
product_is c = ap₂ ◌*ℤ◌ (read _ c.numerator.type_inv ∙ c.numerator.ensures.value) (read _ c.numerator-2.type_inv ∙ c.numerator-2.ensures.value)

pub returns-in_default : goal.returns-in_default
returns-in_default c s =
    c.in_default.ensures (subst InRange (sym (product_is (goal.at.returns-in_default c).After-checked_product)) (product_range c.args.self c.args.other c.requires.self_is c.requires.other_is s))

pub from_parts-requires-clause-lowest : goal.from_parts-requires-clause-lowest
from_parts-requires-clause-lowest c = (whole (to_z w128 (of_z w128 c.in-Ok.n))).reduced

pub returns : goal.returns
returns c =
    let d = (goal.at.returns c).After-checked_product in
    let p = c.args.self in
    let q = c.args.other in
    let n = subst InRange (product_is d) c.in-Ok.ensures.0 in
    let e = c.in-Ok.ensures.1 ∙ product_is d in (
      product_fits_whole p q c.requires.self_is c.requires.other_is n,
      same_parts c.from_parts.result (whole (p.num *ℤ q.num)) (c.from_parts.ensures.numerator_is ∙ ap (λ z. to_z w128 (of_z w128 z)) e ∙ read_range _ n) c.from_parts.ensures.denominator_is
          ∙ sym (mul-whole p q c.requires.self_is c.requires.other_is),
    )
