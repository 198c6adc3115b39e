use Rattle.std.proofs.Common.{subst}
use Rattle.ore_rational.specs.Range.{InRange}
use Rattle.ore_rational.proofs.Bounds.{fits_from}
use Rattle.ore_ring.proofs.fraction.fitting.Goals as goal

pub returns-clause-fits : goal.returns-clause-fits
returns-clause-fits c = fits_from c.args.a (subst InRange c.numerator.ensures.value c.numerator.ensures.range) (subst InRange c.denominator.ensures.value c.denominator.ensures.range)
