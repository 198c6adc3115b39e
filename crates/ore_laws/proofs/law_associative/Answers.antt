use Rattle.ore_rational.specs.Field.{rationals}
use Rattle.ore_monomial.proofs.Signatures.{lawful}
use Rattle.ore_ring.proofs.Product.{times_assoc, one-times, times-one}
use Rattle.ore_laws.proofs.law_associative.Goals as goal

pub returns-clause-associative : goal.returns-clause-associative
returns-clause-associative c = times_assoc rationals c.args.sig.now (lawful c.args.sig.now)

pub returns-clause-unit : goal.returns-clause-unit
returns-clause-unit c = λ f. (one-times rationals c.args.sig.now (lawful c.args.sig.now) f, times-one rationals c.args.sig.now (lawful c.args.sig.now) f)
