use Rattle.ore_rational.specs.Field.{rationals}
use Rattle.ore_ring.proofs.Belonging.{of_plus, of_times}
use Rattle.ore_ring.proofs.AdjointParts.{of_adjoint}
use Rattle.ore_laws.proofs.law_closed.Goals as goal

pub returns-clause-sums : goal.returns-clause-sums
returns-clause-sums c = of_plus rationals c.args.sig.now

pub returns-clause-products : goal.returns-clause-products
returns-clause-products c = of_times rationals c.args.sig.now

pub returns-clause-adjoints : goal.returns-clause-adjoints
returns-clause-adjoints c = of_adjoint rationals c.args.sig.now
