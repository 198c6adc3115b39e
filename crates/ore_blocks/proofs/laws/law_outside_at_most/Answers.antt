use Rattle.ore_blocks.proofs.BlocksAtMost.{check_outside_most}
use Rattle.ore_blocks.proofs.laws.law_outside_at_most.Goals as goal

pub returns : goal.returns
returns c = λ l a w b. check_outside_most l c.args.sig.now a w b
