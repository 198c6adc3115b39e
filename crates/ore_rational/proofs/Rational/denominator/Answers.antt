-- The field is the denominator of the fraction.
use Rattle.std.proofs.Common.{◌∙◌, rules}
use Rattle.ore_rational.proofs.Stored.{back, stored_den}
use Rattle.ore_rational.proofs.Rational.denominator.Goals as goal

pub returns-clause-value : goal.returns-clause-value
returns-clause-value c = back _ (search rules) ∙ stored_den c.self.inside _ c.self.view_is c.self.invariant
