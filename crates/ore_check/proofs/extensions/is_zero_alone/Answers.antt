use Rattle.std.proofs.Common.{Bool, true, false, ◌&&◌, ◌≡◌, refl, ◌∙◌}
use Rattle.ore_blocks.specs.CheckBlock.{are_zero}
use Rattle.ore_check.proofs.extensions.is_zero_alone.Goals as goal

with_true : (b : Bool) → b ≡ (b && true)
with_true true = refl
with_true false = refl

pub returns : goal.returns
unfolding are_zero
returns c = c.is_zero.ensures ∙ with_true _
