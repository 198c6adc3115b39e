use Rattle.ore_monomial.specs.SignatureCode.{same_signature}
use Rattle.ore_generate.specs.Chain.{signature}
use Rattle.ore_generate.proofs.chain.signature.Goals as goal

pub returns : goal.returns
returns c = same_signature c.in-Ok.signature signature c.in-Ok.ensures.kinds c.in-Ok.ensures.order
