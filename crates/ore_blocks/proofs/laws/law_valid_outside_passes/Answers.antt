use Rattle.ore_algebra.specs.Limits.{unlimited}
use Rattle.ore_blocks.specs.CheckBlock.{check_outside}
use Rattle.ore_blocks.proofs.BlocksAtMost.{check_outside_most}
use Rattle.ore_blocks.proofs.CheckedAtMost.{passes_or_stops}
use Rattle.ore_blocks.proofs.BlockConditions.{outside_iff}
use Rattle.ore_blocks.proofs.laws.law_valid_outside_passes.Goals as goal

pub returns : goal.returns
returns c = λ l a w b of h. passes_or_stops (check_outside l c.args.sig.now a w b) (check_outside unlimited c.args.sig.now a w b) tt
    (check_outside_most l c.args.sig.now a w b) ((outside_iff c.args.sig.now a w b of).1 h)
