use Rattle.ore_blocks.proofs.BlocksAtMost.{check_exact_most}
use Rattle.ore_blocks.proofs.laws.law_exact_at_most.Goals as goal

pub returns : goal.returns
returns c = λ l at a m b. check_exact_most l c.args.sig.now at a m b
