use Rattle.ore_rational.specs.Field.{rationals}
use Rattle.ore_monomial.proofs.Signatures.{lawful}
use Rattle.ore_pairs.proofs.Outside.{outside_block}
use Rattle.ore_pairs.proofs.laws.law_outside_block.Goals as goal

pub returns : goal.returns
returns c = λ n a w b of v. outside_block rationals c.args.sig.now (lawful c.args.sig.now) c.args.sig.now.order n a w b of v
