-- What the calls on fractions answer is what the definitions give.
--     sum_ok, sum_stops            a sum that fits, and one that does not
--     product_ok, product_stops    a product alike
--     one_product, product_one     a product with 1 is the other fraction
use Rattle.std.proofs.Common.{◌≡◌, Bool, true, false, pos, refl, ap, sym, ◌∙◌, subst}
use Rattle.std.specs.Prelude.{IsTrue}
use Rattle.std.specs.declared.result.Result.TheVariants.{Ok, Err}
use Rattle.ore_algebra.specs.Limits.{program, guard, Overflow}
use Rattle.ore_algebra.proofs.DomainLaws as Numbers
use Rattle.ore_rational.specs.Fraction.{Fraction, add, mul, whole}
use Rattle.ore_rational.specs.Field.{rationals}
use Rattle.ore_rational.specs.Within.{sum_fits, sum_within, fits, product_within}

not_true : (b : Bool) → ¬ (IsTrue b) → b ≡ false
not_true true n = absurd (n refl)
not_true false n = refl

pub sum_ok : (p q : Fraction) → IsTrue (sum_fits program p q) → sum_within program p q ≡ Ok (add p q)
unfolding sum_within
sum_ok p q h = ap (λ b. guard b (add p q) Overflow) h

pub sum_stops : (p q : Fraction) → ¬ (IsTrue (sum_fits program p q)) → sum_within program p q ≡ Err Overflow
unfolding sum_within
sum_stops p q n = ap (λ b. guard b (add p q) Overflow) (not_true _ n)

pub product_ok : (p q : Fraction) → IsTrue (fits program (mul p q)) → product_within program p q ≡ Ok (mul p q)
unfolding product_within
product_ok p q h = ap (λ b. guard b (mul p q) Overflow) h

pub product_stops : (p q : Fraction) → ¬ (IsTrue (fits program (mul p q))) → product_within program p q ≡ Err Overflow
unfolding product_within
product_stops p q n = ap (λ b. guard b (mul p q) Overflow) (not_true _ n)

one_mul : (p : Fraction) → mul (whole (pos 1)) p ≡ p
one_mul p = Numbers.one_times rationals p

mul_one : (p : Fraction) → mul p (whole (pos 1)) ≡ p
mul_one p = rationals.times_one p

pub one_product : (p : Fraction) → IsTrue (fits program p) → product_within program (whole (pos 1)) p ≡ Ok p
one_product p h = product_ok (whole (pos 1)) p (subst (λ q. IsTrue (fits program q)) (sym (one_mul p)) h) ∙ ap Ok (one_mul p)

pub product_one : (p : Fraction) → IsTrue (fits program p) → product_within program p (whole (pos 1)) ≡ Ok p
product_one p h = product_ok p (whole (pos 1)) (subst (λ q. IsTrue (fits program q)) (sym (mul_one p)) h) ∙ ap Ok (mul_one p)
