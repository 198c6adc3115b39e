use Rattle.ore_blocks.proofs.BlockConditions.{outside_iff}
use Rattle.ore_blocks.proofs.laws.law_outside_is_valid.Goals as goal

pub returns : goal.returns
returns c = λ a w b of. outside_iff c.args.sig.now a w b of
