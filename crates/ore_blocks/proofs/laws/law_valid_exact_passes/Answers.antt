use Rattle.ore_algebra.specs.Limits.{unlimited}
use Rattle.ore_blocks.specs.CheckBlock.{check_exact}
use Rattle.ore_blocks.proofs.BlocksAtMost.{check_exact_most}
use Rattle.ore_blocks.proofs.CheckedAtMost.{passes_or_stops}
use Rattle.ore_blocks.proofs.BlockConditions.{exact_iff}
use Rattle.ore_blocks.proofs.laws.law_valid_exact_passes.Goals as goal

pub returns : goal.returns
returns c = λ l at a m b long wide of h. passes_or_stops (check_exact l c.args.sig.now at a m b) (check_exact unlimited c.args.sig.now at a m b) tt
    (check_exact_most l c.args.sig.now at a m b) ((exact_iff c.args.sig.now at a m b long wide of).1 h)
