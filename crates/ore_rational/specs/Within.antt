-- Sums and products of fractions that stop at limits.
-- (The sum by greatest common divisors: Henrici 1956; Knuth, The Art of Computer Programming, 4.5.1.)
--     sum_gcd, sum_num, sum_rest, sum_den    the numbers that form the sum of a/b and c/d:
--                                            g = gcd(b, d), n = a(d/g) + c(b/g), gcd(n, g), (b/g)(d/gcd(n, g))
--     sum_fits, sum_within                   the four numbers of a sum are within the limits; the sum where they are
--     fits                                   both parts of a fraction are within the limits
--     product_within                         the product where it fits
use Rattle.std.specs.Prelude.{ℕ, ◌*◌, ◌/◌, Bool, ◌&&◌, ℤ, pos, ◌+ℤ◌, ◌*ℤ◌, nat_abs}
use Rattle.std.specs.declared.result.Result.{Result}
use Rattle.ore_algebra.specs.Limits.{Limits, Cause, Overflow, is_within, guard}
use Rattle.ore_rational.specs.Gcd.{gcd}
use Rattle.ore_rational.specs.Fraction.{Fraction, add, mul}

module _ (p q : Fraction) where
  abbrev pub sum_gcd : ℕ
  sum_gcd = gcd p.den q.den

  abbrev pub sum_num : ℤ
  sum_num = (p.num *ℤ pos (q.den / sum_gcd)) +ℤ (q.num *ℤ pos (p.den / sum_gcd))

  abbrev pub sum_rest : ℕ
  sum_rest = gcd (nat_abs sum_num) sum_gcd

  abbrev pub sum_den : ℕ
  sum_den = (p.den / sum_gcd) * (q.den / sum_rest)

unfoldable pub sum_fits : Limits → Fraction → Fraction → Bool
sum_fits l p q =
    is_within l.magnitude (nat_abs (p.num *ℤ pos (q.den / sum_gcd p q)))
    && (is_within l.magnitude (nat_abs (q.num *ℤ pos (p.den / sum_gcd p q)))
    && (is_within l.magnitude (nat_abs (sum_num p q))
    && is_within l.magnitude (sum_den p q)))

unfoldable pub sum_within : Limits → Fraction → Fraction → Result Fraction Cause
sum_within l p q = guard (sum_fits l p q) (add p q) Overflow

unfoldable pub fits : Limits → Fraction → Bool
fits l p = is_within l.magnitude (nat_abs p.num) && is_within l.magnitude p.den

unfoldable pub product_within : Limits → Fraction → Fraction → Result Fraction Cause
product_within l p q = guard (fits l (mul p q)) (mul p q) Overflow
