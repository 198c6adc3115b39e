-- A pair in lowest terms is the pair of the fraction that it stands for.
use Rattle.std.proofs.Common.{◌∙◌, ap, pos}
use Rattle.ore_rational.specs.Reduced.{num-reduce, den-reduce}
use Rattle.ore_rational.specs.Stored.{abs_pos, pos-abs}
use Rattle.ore_rational.proofs.Stored.{back}
use Rattle.ore_rational.proofs.Rational.from_parts.Goals as goal

pub returns-clause-numerator_is : goal.returns-clause-numerator_is
returns-clause-numerator_is c = rw (back _ c.ranges.numerator, back _ c.ranges.denominator) (num-reduce _ _ (abs_pos _ c.requires.above) c.requires.lowest)

pub returns-clause-denominator_is : goal.returns-clause-denominator_is
returns-clause-denominator_is c = rw (back _ c.ranges.numerator, back _ c.ranges.denominator) (ap pos (den-reduce _ _ (abs_pos _ c.requires.above) c.requires.lowest) ∙ pos-abs _ c.requires.above)
