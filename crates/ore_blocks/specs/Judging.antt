-- What a call answers is what the places give, by refusals that name a place.
--     failing_of    the place that a refusal names, and why; want of memory names none
--     Refuses       a call that refused so did as the places say; of want of memory nothing is said
--     Judges        a call that returned a value or refused did as the places say
--     stopped       the refusal of an operation that stops at a place
--     at_place      what an operation answered, with the place of its stop
use Rattle.std.specs.declared.option.Option.{Option}
use Rattle.std.specs.declared.option.Option.TheVariants.{None, Some}
use Rattle.std.specs.declared.result.Result.{Result}
use Rattle.std.specs.declared.result.Result.TheVariants.{Ok, Err}
use Rattle.ore_algebra.specs.Limits as cause
use Rattle.ore_algebra.specs.Results.{RefusedBy, GivesBy}
use Rattle.ore_monomial.specs.declared.stop.RingStop.{RingStop}
use Rattle.ore_monomial.specs.declared.stop.RingStop.TheVariants as stop
use Rattle.ore_blocks.specs.declared.place.Place.{Place}
use Rattle.ore_blocks.specs.declared.refusal.Refusal.{Refusal}
use Rattle.ore_blocks.specs.declared.refusal.Refusal.TheVariants as refusal
use Rattle.ore_blocks.specs.Conditions.{Checked, Failing, Fails, Stops}

abbrev pub failing_of : Refusal → Option Failing
failing_of (refusal.Fails place reason) = Some (record { place = place; trouble = Fails reason })
failing_of (refusal.Overflow place) = Some (record { place = place; trouble = Stops cause.Overflow })
failing_of (refusal.Degree place) = Some (record { place = place; trouble = Stops cause.Degree })
failing_of refusal.Memory = None

-- the places give the place that the refusal names, for the same reason or cause; of want of memory nothing is said
abbrev pub Refuses : {Y : Type 0} → Refusal → Checked Y → Type 0
Refuses = RefusedBy failing_of

-- the places give the view of the value, or refuse as the refusal says
abbrev pub Judges : {X Y : Type 0} → (X → Y) → Result X Refusal → Checked Y → Type 0
Judges = GivesBy Refuses

-- the cause of the stop, at the place; want of memory has no place
abbrev pub stopped : Place → RingStop → Refusal
stopped place stop.Overflow = refusal.Overflow place
stopped place stop.Degree = refusal.Degree place
stopped place stop.Memory = refusal.Memory

-- the value, or the refusal of its stop
abbrev pub at_place : {X : Type 0} → Place → Result X RingStop → Result X Refusal
at_place place (Ok x) = Ok x
at_place place (Err e) = Err (stopped place e)
