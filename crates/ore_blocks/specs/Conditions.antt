-- Conditions on the places of a certificate: what is due at a place is formed and compared, place by place.
--     Trouble               why a place isn't right: its condition fails, or an operation of it stops
--     Failing               the place and why
--     Checked               what the places give, or the first that isn't right
--     formed                the value of an operation at a place
--     fails                 a place whose condition fails
--     required              a test that should pass at a place
--     found                 something that should be there at a place
--     is_same               two values are the same
--     is_none               nothing was found
use Rattle.std.specs.Prelude.{Bool, true, false, cond}
use Rattle.std.specs.declared.option.Option.{Option}
use Rattle.std.specs.declared.option.Option.TheVariants.{None, Some}
use Rattle.std.specs.declared.result.Result.{Result}
use Rattle.std.specs.declared.result.Result.TheVariants.{Ok, Err}
use Rattle.ore_algebra.specs.Limits.{Cause}
use Rattle.ore_blocks.specs.declared.place.Place.{Place}
use Rattle.ore_blocks.specs.declared.reason.Reason.{Reason}

-- a reason where the condition fails, a cause where an operation stops
pub data Trouble : Type 0 where
  Fails : Reason → Trouble
  Stops : Cause → Trouble

-- where it is, and what isn't right there
pub record Failing : Type 0 where
  pub place : Place
  pub trouble : Trouble

-- a value where each place so far is right
abbrev pub Checked : Type 0 → Type 0
Checked X = Result X Failing

-- the value, or the place isn't right, for the cause of the stop
abbrev pub formed : {A : Type 0} → Place → Result A Cause → Checked A
formed place (Ok x) = Ok x
formed place (Err cause) = Err (record { place = place; trouble = Stops cause })

-- the place isn't right, for this reason
abbrev pub fails : {A : Type 0} → Place → Reason → Checked A
fails place reason = Err (record { place = place; trouble = Fails reason })

-- the test passes, or the place isn't right, for this reason
abbrev pub required : Place → Reason → Bool → Checked (Unit {0})
required place reason test = cond test (Ok tt) (fails place reason)

-- what was found, or the place isn't right, for this reason
abbrev pub found : {A : Type 0} → Place → Reason → Option A → Checked A
found place reason None = fails place reason
found place reason (Some x) = Ok x

-- true exactly where the values are equal, which can be told
abbrev pub is_same : {A : Type 0} → Discrete A → A → A → Bool
is_same d x y = elim (d x y) [ yes e ↦ true | no n ↦ false ]

-- true exactly where there is no value
abbrev pub is_none : {A : Type 0} → Option A → Bool
is_none None = true
is_none (Some x) = false
