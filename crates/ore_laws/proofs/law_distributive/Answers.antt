use Rattle.ore_rational.specs.Field.{rationals}
use Rattle.ore_monomial.proofs.Signatures.{lawful}
use Rattle.ore_ring.proofs.Product.{times-plus, plus-times}
use Rattle.ore_laws.proofs.law_distributive.Goals as goal

pub returns-clause-left : goal.returns-clause-left
returns-clause-left c = times-plus rationals c.args.sig.now (lawful c.args.sig.now)

pub returns-clause-right : goal.returns-clause-right
returns-clause-right c = plus-times rationals c.args.sig.now (lawful c.args.sig.now)
