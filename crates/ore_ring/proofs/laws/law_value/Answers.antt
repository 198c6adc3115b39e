use Rattle.ore_ring.proofs.WithinLaws.{times_unlimited, times_value}
use Rattle.ore_ring.proofs.AdjointLaws.{adjoint_unlimited, adjoint_value}
use Rattle.ore_ring.proofs.laws.law_value.Goals as goal

pub returns-clause-product : goal.returns-clause-product
returns-clause-product c = times_unlimited c.args.sig.now

pub returns-clause-adjoint : goal.returns-clause-adjoint
returns-clause-adjoint c = adjoint_unlimited c.args.sig.now

pub returns-clause-products_within : goal.returns-clause-products_within
returns-clause-products_within c l = times_value l c.args.sig.now

pub returns-clause-adjoints_within : goal.returns-clause-adjoints_within
returns-clause-adjoints_within c l = adjoint_value l c.args.sig.now
