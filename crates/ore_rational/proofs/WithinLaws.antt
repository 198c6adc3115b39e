-- Sums and products of fractions within limits.
--     sum_unlimited, product_unlimited    without limits each is the mathematical value
--     sum_at_most, product_at_most        under limits each gives that value, or stops
--     sum_value, product_value            so a value under limits is the mathematical one
use Rattle.std.proofs.Common.{◌≡◌, refl}
use Rattle.std.specs.declared.result.Result.TheVariants.{Ok}
use Rattle.ore_algebra.specs.Limits.{Limits, Overflow, unlimited, IsAtMost}
use Rattle.ore_algebra.proofs.LimitLaws.{most_test, most_value}
use Rattle.ore_rational.specs.Fraction.{Fraction, add, mul}
use Rattle.ore_rational.specs.Within.{sum_fits, sum_within, fits, product_within}

pub sum_unlimited : (p q : Fraction) → sum_within unlimited p q ≡ Ok (add p q)
unfolding sum_within sum_fits
sum_unlimited p q = refl

pub product_unlimited : (p q : Fraction) → product_within unlimited p q ≡ Ok (mul p q)
unfolding product_within fits
product_unlimited p q = refl

module _ (l : Limits) (p q : Fraction) where
  pub sum_at_most : IsAtMost (sum_within l p q) (Ok (add p q))
  unfolding sum_within
  sum_at_most = most_test (sum_fits l p q) (add p q) Overflow

  pub product_at_most : IsAtMost (product_within l p q) (Ok (mul p q))
  unfolding product_within
  product_at_most = most_test (fits l (mul p q)) (mul p q) Overflow

  pub sum_value : (r : Fraction) → sum_within l p q ≡ Ok r → r ≡ add p q
  sum_value r e = most_value (sum_within l p q) r (add p q) sum_at_most e

  pub product_value : (r : Fraction) → product_within l p q ≡ Ok r → r ≡ mul p q
  product_value r e = most_value (product_within l p q) r (mul p q) product_at_most e
