-- What places give within limits, beside what they give without.
--     IsStopped          an operation of some place stops
--     IsCheckedAtMost    places under tighter limits: they give the same, or an operation stops
use Rattle.std.specs.Prelude.{◌≡◌, ◌⊎◌}
use Rattle.std.specs.declared.result.Result.TheVariants.{Err}
use Rattle.ore_algebra.specs.Limits.{Cause}
use Rattle.ore_blocks.specs.declared.place.Place.{Place}
use Rattle.ore_blocks.specs.Conditions.{Checked, Stops}

-- the first place that isn't right is one of which an operation stops, by Overflow or Degree
abbrev pub IsStopped : {A : Type 0} → Checked A → Type 0
IsStopped given = (place : Place) × (cause : Cause) × (given ≡ Err (record { place = place; trouble = Stops cause }))

-- the first gives what the second gives, or stops; so it fails no condition where the second fails none
abbrev pub IsCheckedAtMost : {A : Type 0} → Checked A → Checked A → Type 0
IsCheckedAtMost given unlimited = (given ≡ unlimited) ⊎ IsStopped given
