-- The laws of both orders of monomials, beside those of Monomials (total, told apart) and WellFounded (by_order).
--     order-product       kept by a product with the same monomial
--     unit_least          the unit is not greater than any monomial
--     product_above       a monomial is not greater than its product with another
--     divisor_not_above   a divisor is not greater
--     degree_decides, degrees_apart    a monomial of smaller degree is smaller
--     exponents_decide, degrees_same   of two of the same degree the exponents decide
--     upto_less, less_upto, upto_upto    of a total order: x not above y and y below z give x below z, and so on
use Rattle.std.proofs.Common.{◌≡◌, ◌≢◌, ℕ, ◌<◌, false, reverse, refl, sym, ap, ◌∙◌, subst, true≢false, arith}
use Rattle.std.specs.declared.cmp.Ordering.{Ordering}
use Rattle.std.specs.declared.cmp.Ordering.TheVariants.{Less, Equal, Greater}
use Rattle.std.specs.Ordering.{is_gt, nat_cmp, ordering_then, ordering_reverse}
use Rattle.std.specs.Cmp.{IsTotalOrder, tied_itself}
use Rattle.std.specs.Cmp.Lexicographic.{slice_cmp}
use Rattle.std.proofs.lemmas.Bool.Decides.{nat_tests}
use native.Mathlib.Decide.{dec_lt}
use Rattle.ore_monomial.specs.Monomial.{Monomial, degree, unit, product, quotient, Divides, order_cmp, plain_cmp}
use Rattle.ore_monomial.specs.declared.order.Order.{Order}
use Rattle.ore_monomial.specs.declared.order.Order.TheVariants.{DegLex, DegRevLex}
use Rattle.ore_monomial.proofs.Monomials.{order_total, order_sum, product_comm, product-unit, degree-product}
use Rattle.ore_monomial.proofs.Divisors.{product-quotient, unit_from_degree}

-- two monomials are ordered as their products with one monomial are
pub order-product : (o : Order) (p m n : Monomial) → order_cmp o (product p m) (product p n) ≡ order_cmp o m n
order-product o p m n = (λ i. order_cmp o (product_comm p m i) (product_comm p n i)) ∙ order_sum o m n p

-- ---- the unit is the least monomial

nat_cmp-less : (a b : ℕ) → a < b → nat_cmp a b ≡ Less
nat_cmp-less a b h = grind (arith, nat_tests)

-- of two monomials the one with the smaller degree is smaller
pub degree_decides : (o : Order) (m n : Monomial) → degree m < degree n → order_cmp o m n ≡ Less
degree_decides DegLex m n h = ap (λ r. ordering_then r (plain_cmp m n)) (nat_cmp-less _ _ h)
degree_decides DegRevLex m n h = ap (λ r. ordering_then r (slice_cmp nat_cmp (reverse n.exponents) (reverse m.exponents))) (nat_cmp-less _ _ h)

then_decided : (a b : Ordering) → a ≢ Equal → a ≡ ordering_then a b
then_decided Less b n = refl
then_decided Equal b n = absurd (n refl)
then_decided Greater b n = refl

-- where the degrees differ, they decide
pub degrees_apart : (o : Order) (m n : Monomial) → nat_cmp (degree m) (degree n) ≢ Equal → nat_cmp (degree m) (degree n) ≡ order_cmp o m n
degrees_apart DegLex m n h = then_decided (nat_cmp (degree m) (degree n)) (plain_cmp m n) h
degrees_apart DegRevLex m n h = then_decided (nat_cmp (degree m) (degree n)) (slice_cmp nat_cmp (reverse n.exponents) (reverse m.exponents)) h

-- the order of two monomials of the same degree
abbrev pub exponents_decide : Order → Monomial → Monomial → Ordering
exponents_decide DegLex m n = slice_cmp nat_cmp m.exponents n.exponents
exponents_decide DegRevLex m n = slice_cmp nat_cmp (reverse n.exponents) (reverse m.exponents)

-- where the degrees are the same, the exponents decide
pub degrees_same : (o : Order) (m n : Monomial) → nat_cmp (degree m) (degree n) ≡ Equal → exponents_decide o m n ≡ order_cmp o m n
unfolding plain_cmp
degrees_same DegLex m n e = ap (λ r. ordering_then r (plain_cmp m n)) (sym e)
degrees_same DegRevLex m n e = ap (λ r. ordering_then r (slice_cmp nat_cmp (reverse n.exponents) (reverse m.exponents))) (sym e)

pub unit_least : (o : Order) (m : Monomial) → is_gt (order_cmp o unit m) ≡ false
unit_least o m = by (dec_lt (degree unit) (degree m))
  where
    none : degree unit ≡ 0
    none = let d = degree-product unit unit in let e = ap degree (product-unit unit) in omega arith

    by : Dec (degree unit < degree m) → is_gt (order_cmp o unit m) ≡ false
    by (yes l) = ap is_gt (degree_decides o unit m l)
    by (no n) = ap (λ n. is_gt (order_cmp o unit n)) (unit_from_degree m (let e = none in omega arith)) ∙ ap is_gt (tied_itself (order_total o) unit)

-- ---- products and divisors

pub product_above : (o : Order) (m p : Monomial) → is_gt (order_cmp o m (product p m)) ≡ false
product_above o m p = ap is_gt (ap (λ n. order_cmp o n (product p m)) (sym (product-unit m)) ∙ order_sum o unit p m) ∙ unit_least o p

pub divisor_not_above : (o : Order) (m n : Monomial) → Divides m n → is_gt (order_cmp o m n) ≡ false
divisor_not_above o m n h = subst (λ q. is_gt (order_cmp o m q) ≡ false) (product-quotient n m h) (product_above o m (quotient n m))

-- ---- not above and below

module _ {T : Type 0} {R : T → T → Ordering} (total : IsTotalOrder R) where
  pub upto_less : (x y z : T) → is_gt (R x y) ≡ false → R y z ≡ Less → R x z ≡ Less
  upto_less x y z h l = by (R x y) refl h
    where
      by : (c : Ordering) → R x y ≡ c → is_gt c ≡ false → R x z ≡ Less
      by Less e h = total.trans x y z e l
      by Equal e h = total.congr x y z e ∙ l
      by Greater e h = absurd (true≢false h)

  pub less_upto : (x y z : T) → R x y ≡ Less → is_gt (R y z) ≡ false → R x z ≡ Less
  less_upto x y z l h = by (R y z) refl h
    where
      by : (c : Ordering) → R y z ≡ c → is_gt c ≡ false → R x z ≡ Less
      by Less e h = total.trans x y z l e
      by Equal e h = total.antisymm x z ∙ ap ordering_reverse (sym (total.congr y z x e) ∙ total.antisymm y x ∙ ap ordering_reverse l)
      by Greater e h = absurd (true≢false h)

  pub upto_upto : (x y z : T) → is_gt (R x y) ≡ false → is_gt (R y z) ≡ false → is_gt (R x z) ≡ false
  upto_upto x y z h k = by (R x y) refl h
    where
      by : (c : Ordering) → R x y ≡ c → is_gt c ≡ false → is_gt (R x z) ≡ false
      by Less e h = ap is_gt (less_upto x y z e k)
      by Equal e h = ap is_gt (total.congr x y z e) ∙ k
      by Greater e h = absurd (true≢false h)
