use Rattle.ore_blocks.proofs.BlockConditions.{exact_iff}
use Rattle.ore_blocks.proofs.laws.law_exact_is_valid.Goals as goal

pub returns : goal.returns
returns c = λ at a m b long wide of. exact_iff c.args.sig.now at a m b long wide of
