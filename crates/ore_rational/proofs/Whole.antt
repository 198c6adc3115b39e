-- Sums and products of fractions that are whole numbers.
--     whole_is                              a fraction over 1 is its numerator
--     sum_range, sum_fits_whole             a sum of two such fits exactly where the sum of their numerators is in range
--     product_range, product_fits_whole     the same of a product
--     add-whole, mul-whole                  what they are
use Rattle.std.proofs.Common.{◌≡◌, ℕ, ◌<◌, ◌^◌, ◌*◌, ◌/◌, ℤ, pos, ◌+ℤ◌, ◌*ℤ◌, nat_abs, arith, refl, sym, ap, ap₂, ◌∙◌, subst, [], ◌∷◌}
use Rattle.std.specs.Prelude.{IsTrue}
use Rattle.std.proofs.lemmas.Int.{unsigned_abs-mul}
use Rattle.std.proofs.lemmas.Nat.{mul-le}
use Rattle.std.proofs.lemmas.Nat.Gcd.{same_from_IsGcd, dvd_refl}
use native.Mathlib.Nat.{one-dvd}
use Rattle.ore_algebra.specs.Limits.{program}
use Rattle.ore_algebra.proofs.Normal.{one, ◌⊗◌, v0}
use Rattle.ore_rational.specs.Gcd.{gcd, gcd_is}
use Rattle.ore_rational.specs.Fraction.{Fraction, whole, add, mul}
use Rattle.ore_rational.specs.Reduced.{same_fraction}
use Rattle.ore_rational.specs.Range.{InRange}
use Rattle.ore_rational.specs.Within.{sum_num, sum_den, sum_fits, fits}
use Rattle.ore_rational.proofs.Bounds.{sum-num, sum_fits_from, fits-num, fits_from}
use Rattle.ore_rational.specs.FractionRing.{in_wholes, whole-add, whole-mul}

pub one-gcd : (b : ℕ) → gcd 1 b ≡ 1
one-gcd b = same_from_IsGcd 1 b (gcd 1 b) 1 (gcd_is 1 b) (dvd_refl 1, one-dvd b, λ d u v. u)

pub gcd-one : (a : ℕ) → gcd a 1 ≡ 1
gcd-one a = same_from_IsGcd a 1 (gcd a 1) 1 (gcd_is a 1) (one-dvd a, dvd_refl 1, λ d u v. v)

pub whole_is : (p : Fraction) → p.den ≡ 1 → p ≡ whole p.num
whole_is p e = same_fraction p (whole p.num) refl e

times_one : (z : ℤ) → z *ℤ pos (1 / gcd 1 1) ≡ z
times_one z = rw (one-gcd 1) (in_wholes (z ∷ []) (v0 ⊗ one) v0 refl)

module _ (a b : ℤ) where
  num_is : sum_num (whole a) (whole b) ≡ a +ℤ b
  num_is = ap₂ ◌+ℤ◌ (times_one a) (times_one b)

  den_is : sum_den (whole a) (whole b) ≡ 1
  unfolding gcd
  den_is = ap (λ g. (1 / gcd 1 1) * (1 / g)) (gcd-one (nat_abs (sum_num (whole a) (whole b))))

  fits_whole : InRange a → InRange b → InRange (a +ℤ b) → IsTrue (sum_fits program (whole a) (whole b))
  fits_whole h k n =
      sum_fits_from (whole a) (whole b) (subst InRange (sym (times_one a)) h) (subst InRange (sym (times_one b)) k) (subst InRange (sym num_is) n)
      (subst (λ d. d < 2 ^ 127) (sym den_is) (omega arith))

module _ (p q : Fraction) (e : p.den ≡ 1) (f : q.den ≡ 1) where
  pub sum_range : IsTrue (sum_fits program p q) → InRange (p.num +ℤ q.num)
  sum_range h =
      subst InRange (num_is p.num q.num)
      (sum-num (whole p.num) (whole q.num) (subst (λ y. IsTrue (sum_fits program (whole p.num) y)) (whole_is q f) (subst (λ x. IsTrue (sum_fits program x q)) (whole_is p e) h)))

  pub sum_fits_whole : InRange p.num → InRange q.num → InRange (p.num +ℤ q.num) → IsTrue (sum_fits program p q)
  sum_fits_whole h k n =
      subst (λ x. IsTrue (sum_fits program x q)) (sym (whole_is p e))
      (subst (λ y. IsTrue (sum_fits program (whole p.num) y)) (sym (whole_is q f)) (fits_whole p.num q.num h k n))

  pub add-whole : add p q ≡ whole (p.num +ℤ q.num)
  add-whole = ap₂ add (whole_is p e) (whole_is q f) ∙ sym (whole-add p.num q.num)

  pub mul-whole : mul p q ≡ whole (p.num *ℤ q.num)
  mul-whole = ap₂ mul (whole_is p e) (whole_is q f) ∙ sym (whole-mul p.num q.num)

  pub product_range : IsTrue (fits program (mul p q)) → InRange (p.num *ℤ q.num)
  product_range h = fits-num (whole (p.num *ℤ q.num)) (subst (λ r. IsTrue (fits program r)) mul-whole h)

  pub product_fits_whole : InRange (p.num *ℤ q.num) → IsTrue (fits program (mul p q))
  product_fits_whole n = subst (λ r. IsTrue (fits program r)) (sym mul-whole) (fits_from (whole (p.num *ℤ q.num)) n (omega arith))

-- two magnitudes below 2^63 have a product in range
pub small_range : (a b : ℤ) → nat_abs a < 2 ^ 63 → nat_abs b < 2 ^ 63 → InRange (a *ℤ b)
small_range a b h k =
    let m = mul-le (nat_abs a) (nat_abs b) 9223372036854775808 9223372036854775808 (omega (arith, h)) (omega (arith, k)) in
    rw (unsigned_abs-mul a b) (omega (arith, m))
