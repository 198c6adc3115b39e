use Rattle.ore_rational.specs.FractionRing.{whole-add, whole-neg, whole-mul, whole_injective}
use Rattle.ore_rational.proofs.laws.whole_numbers_are_fractions.Goals as goal

pub returns-clause-sums : goal.returns-clause-sums
returns-clause-sums c = whole-add

pub returns-clause-opposites : goal.returns-clause-opposites
returns-clause-opposites c = whole-neg

pub returns-clause-products : goal.returns-clause-products
returns-clause-products c = whole-mul

pub returns-clause-apart : goal.returns-clause-apart
returns-clause-apart c = whole_injective
