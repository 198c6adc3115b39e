use Rattle.ore_rational.specs.Field.{rationals}
use Rattle.ore_monomial.proofs.Signatures.{lawful}
use Rattle.ore_pairs.proofs.Exact.{exact_block}
use Rattle.ore_pairs.proofs.laws.law_exact_block.Goals as goal

pub returns : goal.returns
returns c = λ n a l b ll of v. exact_block rationals c.args.sig.now (lawful c.args.sig.now) c.args.sig.now.order n a l b ll of v
