-- 0 / 1 is in lowest terms.
use Rattle.std.proofs.Common.{pos}
use Rattle.ore_rational.specs.Fraction.{whole}
use Rattle.ore_rational.specs.Reduced.{reduce-self}
use Rattle.ore_rational.proofs.Rational.zero.Goals as goal

pub returns : goal.returns
returns c = reduce-self (whole (pos 0))
