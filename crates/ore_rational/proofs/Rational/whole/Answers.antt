-- A whole number over 1 is in lowest terms.
use Rattle.std.proofs.Common.{◌∙◌}
use Rattle.ore_rational.specs.Fraction.{whole}
use Rattle.ore_rational.proofs.FractionLaws.{same_parts}
use Rattle.ore_rational.proofs.Stored.{read_range}
use Rattle.ore_rational.proofs.Rational.whole.Goals as goal

pub from_parts-requires-clause-lowest : goal.from_parts-requires-clause-lowest
from_parts-requires-clause-lowest c = rw (read_range c.args.k c.requires) (whole c.args.k).reduced

pub returns : goal.returns
returns c = same_parts c.from_parts.result (whole c.args.k) (c.from_parts.ensures.numerator_is ∙ read_range c.args.k c.requires) c.from_parts.ensures.denominator_is
