-- What the program's limits say of a sum's numbers and of a fraction's parts.
--     Decides-within                           the test against the program's greatest magnitude
--     sum-left, sum-right, sum-num, sum-den    the four numbers of a sum that fits are in the range
--     sum_fits_from                            a sum fits where its four numbers are in the range
--     fits-num, fits-den, fits_from            the same of a fraction's two parts
use Rattle.std.proofs.Common.{ℕ, ◌<◌, ◌^◌, ◌/◌, pos, ◌*ℤ◌, arith}
use Rattle.std.specs.Prelude.{IsTrue}
use Rattle.std.specs.Bool.{Decides}
use Rattle.std.proofs.lemmas.Bool.Decides.{Decides-and, leb_tells}
use Rattle.ore_algebra.specs.Limits.{program, is_within}
use Rattle.ore_rational.specs.Fraction.{Fraction}
use Rattle.ore_rational.specs.Within.{sum_gcd, sum_num, sum_den, sum_fits, fits}
use Rattle.ore_rational.specs.Range.{InRange}

pub Decides-within : (n : ℕ) → Decides (is_within program.magnitude n) (n < 2 ^ 127)
Decides-within n = let t = leb_tells n 170141183460469231731687303715884105727 in grind (arith, t)

module _ (p q : Fraction) where
  Decides-sum_fits : Decides (sum_fits program p q) (InRange (p.num *ℤ pos (q.den / sum_gcd p q)) × (InRange (q.num *ℤ pos (p.den / sum_gcd p q)) × (InRange (sum_num p q) × (sum_den p q < 2 ^ 127))))
  unfolding sum_fits
  Decides-sum_fits = Decides-and _ _ (Decides-within _) (Decides-and _ _ (Decides-within _) (Decides-and _ _ (Decides-within _) (Decides-within _)))

  pub sum-left : IsTrue (sum_fits program p q) → InRange (p.num *ℤ pos (q.den / sum_gcd p q))
  sum-left h = (Decides-sum_fits.0 h).0

  pub sum-right : IsTrue (sum_fits program p q) → InRange (q.num *ℤ pos (p.den / sum_gcd p q))
  sum-right h = (Decides-sum_fits.0 h).1.0

  pub sum-num : IsTrue (sum_fits program p q) → InRange (sum_num p q)
  sum-num h = (Decides-sum_fits.0 h).1.1.0

  pub sum-den : IsTrue (sum_fits program p q) → sum_den p q < 2 ^ 127
  sum-den h = (Decides-sum_fits.0 h).1.1.1

  pub sum_fits_from : InRange (p.num *ℤ pos (q.den / sum_gcd p q)) → InRange (q.num *ℤ pos (p.den / sum_gcd p q)) → InRange (sum_num p q) → sum_den p q < 2 ^ 127 → IsTrue (sum_fits program p q)
  sum_fits_from left right num den = Decides-sum_fits.1 (left, (right, (num, den)))

module _ (p : Fraction) where
  Decides-fits : Decides (fits program p) (InRange p.num × (p.den < 2 ^ 127))
  unfolding fits
  Decides-fits = Decides-and _ _ (Decides-within _) (Decides-within _)

  pub fits-num : IsTrue (fits program p) → InRange p.num
  fits-num h = (Decides-fits.0 h).0

  pub fits-den : IsTrue (fits program p) → p.den < 2 ^ 127
  fits-den h = (Decides-fits.0 h).1

  pub fits_from : InRange p.num → p.den < 2 ^ 127 → IsTrue (fits program p)
  fits_from num den = Decides-fits.1 (num, den)
