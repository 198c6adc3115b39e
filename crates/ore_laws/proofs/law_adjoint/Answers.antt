use Rattle.ore_rational.specs.Field.{rationals}
use Rattle.ore_monomial.proofs.Signatures.{lawful}
use Rattle.ore_ring.proofs.Adjoints.{adjoint-linear, adjoint-times, adjoint-adjoint}
use Rattle.ore_laws.proofs.law_adjoint.Goals as goal

pub returns-clause-sum : goal.returns-clause-sum
returns-clause-sum c = (adjoint-linear rationals c.args.sig.now).plus

pub returns-clause-product : goal.returns-clause-product
returns-clause-product c = adjoint-times rationals c.args.sig.now (lawful c.args.sig.now)

pub returns-clause-twice : goal.returns-clause-twice
returns-clause-twice c = adjoint-adjoint rationals c.args.sig.now (lawful c.args.sig.now)
