-- Fractions of any size: pairs of whole numbers in lowest terms with a denominator above 0.
--     Fraction                   such a pair; equal fractions are equal pairs
--     whole                      a whole number as a fraction
--     over n g                   n / g for a divisor g of n
--     reduce                     n / d in lowest terms
--     add, mul, neg, sub         sums and products by the rules for n / d, reduced
--     inverse, div               1 / p and p / q, for p and q that are not 0
--     ratio                      n / d for whole numbers of either sign
--     unit_over                  d / n for whole numbers n of either sign
--     abs-neg, abs-over          absolute values of a negative number, and of a quotient
--     gcd-pos, den-pos, over-reduced  n and d over their greatest common divisor are in lowest terms
use Rattle.std.specs.Prelude.{◌≡◌, ℕ, zero, suc, ◌*◌, ◌/◌, ◌<◌, ℤ, pos, negsuc, ◌+ℤ◌, ◌*ℤ◌, neg_ℤ, nat_abs, int_div}
use Rattle.std.proofs.Common.{refl, subst, zero-lt-suc}
use Rattle.std.proofs.lemmas.Nat.Gcd.{dvd_refl}
use native.Mathlib.Nat.{div-mul_cancel, pos_of_dvd_of_pos, one-dvd}
use Prim.Native.Nat.{◌∣◌}
use Rattle.std.specs.Int.{IsGcd}
use Rattle.ore_rational.specs.Gcd.{gcd, gcd_is, coprime_over}

-- num / den, where num and den share no divisor but 1
pub record Fraction : Type 0 where
  pub num : ℤ
  pub den : ℕ
  pub positive : 0 < den
  pub reduced : IsGcd (nat_abs num) den 1

-- n / g, where g divides n
abbrev pub over : ℤ → ℕ → ℤ
over n g = int_div n (pos g)

pub abs-neg : (z : ℤ) → nat_abs (neg_ℤ z) ≡ nat_abs z
abs-neg (pos zero) = refl
abs-neg (pos (suc n)) = refl
abs-neg (negsuc n) = refl

pub abs-over : (z : ℤ) (g : ℕ) → nat_abs (over z g) ≡ nat_abs z / g
abs-over (pos n) g = refl
abs-over (negsuc n) g = abs-neg (pos (suc n / g))

pub gcd-pos : (n d : ℕ) → 0 < d → 0 < gcd n d
gcd-pos n d p = pos_of_dvd_of_pos (gcd_is n d).1 p

pub den-pos : (n d : ℕ) → 0 < d → 0 < d / gcd n d
den-pos n d p =
    pos_of_dvd_of_pos {m = d / gcd n d} {n = d} (subst (λ k. d / gcd n d ∣ k) (div-mul_cancel (gcd n d) (gcd_is n d).1) (native.Mathlib.Nat.dvd-mul_right (d / gcd n d) (gcd n d))) p

pub over-reduced : (n : ℤ) (d : ℕ) → 0 < d → IsGcd (nat_abs (over n (gcd (nat_abs n) d))) (d / gcd (nat_abs n) d) 1
over-reduced n d p = rw abs-over (coprime_over (nat_abs n) d (gcd (nat_abs n) d) (gcd_is (nat_abs n) d) (gcd-pos (nat_abs n) d p))

-- a whole number
abbrev pub whole : ℤ → Fraction
whole z = record { num = z; den = 1; positive = zero-lt-suc 0; reduced = (one-dvd (nat_abs z), dvd_refl 1, λ d u v. v) }

-- n / d in lowest terms, and 0 where d is 0
unfoldable pub reduce : ℤ → ℕ → Fraction
reduce n zero = whole (pos 0)
reduce n (suc d) =
    record { num = over n (gcd (nat_abs n) (suc d)); den = suc d / gcd (nat_abs n) (suc d); positive = den-pos (nat_abs n) (suc d) (zero-lt-suc d); reduced = over-reduced n (suc d) (zero-lt-suc d) }

unfoldable pub add : Fraction → Fraction → Fraction
add p q = reduce ((p.num *ℤ pos q.den) +ℤ (q.num *ℤ pos p.den)) (p.den * q.den)

unfoldable pub mul : Fraction → Fraction → Fraction
mul p q = reduce (p.num *ℤ q.num) (p.den * q.den)

unfoldable pub neg : Fraction → Fraction
neg p = reduce (neg_ℤ p.num) p.den

abbrev pub sub : Fraction → Fraction → Fraction
sub p q = add p (neg q)

-- 1 / n
abbrev pub unit_over : ℤ → ℕ → Fraction
unit_over (pos n) d = reduce (pos d) n
unit_over (negsuc n) d = reduce (neg_ℤ (pos d)) (suc n)

-- 1 / p, and 0 where p is 0
unfoldable pub inverse : Fraction → Fraction
inverse p = unit_over p.num p.den

abbrev pub div : Fraction → Fraction → Fraction
div p q = mul p (inverse q)

-- n / d, for whole numbers, d not 0
abbrev pub ratio : ℤ → ℤ → Fraction
ratio n (pos d) = reduce n d
ratio n (negsuc d) = reduce (neg_ℤ n) (suc d)
