use Rattle.ore_rational.specs.Field.{rationals}
use Rattle.ore_monomial.proofs.Signatures.{lawful}
use Rattle.ore_ring.proofs.NoZeroDivisor.{no_zero_divisor}
use Rattle.ore_laws.proofs.law_no_zero_divisor.Goals as goal

pub returns : goal.returns
returns c = no_zero_divisor rationals c.args.sig.now.order c.args.sig.now (lawful c.args.sig.now)
