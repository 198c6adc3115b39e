-- Conditions one behind the other.
--     refuses_as           what refuses the first condition refuses the whole
--     passed_as            a first condition that gives a value leaves what is behind it
use Rattle.std.proofs.Common.{◌≡◌, sym, ap, ◌∙◌, subst}
use Rattle.std.specs.declared.result.Result.TheVariants.{Ok}
use Rattle.ore_blocks.specs.Conditions.{Checked}
use Rattle.ore_algebra.specs.Results.{◌>>=◌}
use Rattle.ore_blocks.specs.Judging.{Refuses}
use Rattle.ore_blocks.specs.declared.refusal.Refusal.{Refusal}
use Rattle.ore_blocks.proofs.Refusals.{refuses_on}

module _ {X Y : Type 0} (given : Checked X) (k : X → Checked Y) (rest whole : Checked Y) (goes : rest ≡ (given >>= k)) (told : rest ≡ whole) where
  pub refuses_as : (e : Refusal) → Refuses e given → Refuses e whole
  refuses_as e h = subst (Refuses e) (sym goes ∙ told) (refuses_on e given k h)

  pub passed_as : (x : X) → given ≡ Ok x → k x ≡ whole
  passed_as x h = sym (goes ∙ ap (λ r. r >>= k) h) ∙ told
