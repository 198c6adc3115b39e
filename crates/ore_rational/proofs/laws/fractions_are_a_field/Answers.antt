use Rattle.ore_algebra.proofs.RingLaws.{ring_laws}
use Rattle.ore_rational.specs.FractionRing.{fraction_ring, mul_comm, one_apart, mul-inverse, mul_apart}
use Rattle.ore_rational.proofs.laws.fractions_are_a_field.Goals as goal

pub returns : goal.returns
returns c = record { ring = ring_laws fraction_ring; mul_comm = mul_comm; one_apart = one_apart; mul-inverse = mul-inverse; no_zero_divisors = mul_apart }
