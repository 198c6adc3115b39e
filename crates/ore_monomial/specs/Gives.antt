-- What a call returned is what a definition gives, unless memory ran out.
--     cause_of  the cause of a stop; want of memory has none
--     Fails     a call that stopped so did as the definition says
--     Gives     a call that returned a value or stopped did as the definition says
--     Turns     the same of a call that changes a value in place, to new
use Rattle.std.specs.declared.option.Option.{Option}
use Rattle.std.specs.declared.option.Option.TheVariants.{None, Some}
use Rattle.std.specs.declared.result.Result.{Result}
use Rattle.ore_algebra.specs.Limits.{Cause}
use Rattle.ore_algebra.specs.Limits as cause
use Rattle.ore_algebra.specs.Results.{RefusedBy, GivesBy}
use Rattle.ore_monomial.specs.declared.stop.RingStop.{RingStop}
use Rattle.ore_monomial.specs.declared.stop.RingStop.TheVariants as stop

abbrev pub cause_of : RingStop → Option Cause
cause_of stop.Overflow = Some cause.Overflow
cause_of stop.Degree = Some cause.Degree
cause_of stop.Memory = None

-- the definition stops with this cause; of want of memory it says nothing
abbrev pub Fails : {Y : Type 0} → RingStop → Result Y Cause → Type 0
Fails = RefusedBy cause_of

-- the view of the value is what the definition gives, or the call stopped with the definition's cause
abbrev pub Gives : {X Y : Type 0} → (X → Y) → Result X RingStop → Result Y Cause → Type 0
Gives = GivesBy Fails

-- the changed value is what the definition gives, or the call stopped with the definition's cause
abbrev pub Turns : {X Y : Type 0} → Result X RingStop → Y → Result Y Cause → Type 0
Turns result new given = Gives (λ _. new) result given
