-- The field of the fractions.
--     rationals             the fractions as a domain, whose numbers operators have
--     rational_inverses     each of them but 0 has an inverse
use Rattle.ore_algebra.specs.Domain.{Domain, HasInverses}
use Rattle.ore_rational.specs.Fraction.{inverse}
use Rattle.ore_rational.specs.FractionRing.{fraction_ring, fraction_discrete, mul_comm, one_apart, mul_apart, mul-inverse}

-- 0, 1, sums, products and opposites of fractions, which are told apart and have no zero divisors
abbrev pub rationals : Domain
rationals = record {
  ring = fraction_ring;
  discrete = fraction_discrete;
  times_comm = mul_comm;
  one_apart = one_apart;
  times_apart = mul_apart;
}

-- the inverse of a fraction that is not 0
abbrev pub rational_inverses : HasInverses rationals
rational_inverses = record { inverse = λ p ne. inverse p; times_inverse = mul-inverse }
