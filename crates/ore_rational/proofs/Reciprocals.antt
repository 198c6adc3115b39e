-- The parts of 1 / p.
--     inverse_positive                 where p is above 0: its parts change places
--     inverse_negative                 where p is below 0: the same, each with the other sign
use Rattle.std.proofs.Common.{◌≡◌, ◌≢◌, zero, suc, ℤ, pos, negsuc, ◌<ℤ◌, ◌≤ℤ◌, neg_ℤ, arith, refl, ap}
use Rattle.std.proofs.lemmas.Int.{ints}
use Rattle.ore_rational.specs.Fraction.{Fraction, inverse, whole}
use Rattle.ore_rational.specs.FractionRing.{zero-num}
use Rattle.ore_rational.proofs.FractionLaws.{inverse-above, inverse-below}

pub inverse_negative : (p : Fraction) → p.num <ℤ pos 0 → ((inverse p).num ≡ neg_ℤ (pos p.den)) × (pos (inverse p).den ≡ neg_ℤ p.num)
inverse_negative p h = by p.num refl h
  where
    by : (z : ℤ) → p.num ≡ z → z <ℤ pos 0 → ((inverse p).num ≡ neg_ℤ (pos p.den)) × (pos (inverse p).den ≡ neg_ℤ z)
    by (pos n) e l = absurd (omega (arith, ints))
    by (negsuc n) e l = ((inverse-below p n e).0, ap pos (inverse-below p n e).1)

pub inverse_positive : (p : Fraction) → p ≢ whole (pos 0) → pos 0 ≤ℤ p.num → ((inverse p).num ≡ pos p.den) × (pos (inverse p).den ≡ p.num)
inverse_positive p ne h = by p.num refl h
  where
    by : (z : ℤ) → p.num ≡ z → pos 0 ≤ℤ z → ((inverse p).num ≡ pos p.den) × (pos (inverse p).den ≡ z)
    by (pos zero) e l = absurd (ne (zero-num p e))
    by (pos (suc n)) e l = ((inverse-above p n e).0, ap pos (inverse-above p n e).1)
    by (negsuc n) e l = absurd (omega (arith, ints))
