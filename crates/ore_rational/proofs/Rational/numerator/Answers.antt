-- The field is the numerator of the fraction.
use Rattle.std.proofs.Common.{◌∙◌}
use Rattle.std.specs.Int.{w128}
use Rattle.std.proofs.lemmas.Int.{fits_signed_from_abs}
use Rattle.ore_rational.proofs.Stored.{back, stored_num}
use Rattle.ore_rational.proofs.Rational.numerator.Goals as goal

pub returns-clause-value : goal.returns-clause-value
returns-clause-value c = back _ (fits_signed_from_abs w128 _ c.self.invariant.range) ∙ stored_num c.self.inside _ c.self.view_is c.self.invariant
