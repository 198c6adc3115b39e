-- How reading ends.
--     CountsFault   a count of faults rose where the answer is a fault, and is the same elsewhere
--     Takes         so many of the known bytes were taken from the front
use Rattle.std.specs.Prelude.{◌≡◌, ℕ, List, length}
use Rattle.std.specs.declared.option.Option.{Option}
use Rattle.std.specs.declared.result.Result.{Result}
use Rattle.std.specs.declared.result.Result.TheVariants.{Ok, Err}
use Rattle.std.specs.Io.KnownBytes.{prepend_known}
use Rattle.ore_io.specs.Faults.{Rose}
use Rattle.ore_reply.specs.declared.input.InputEnd.{InputEnd}
use Rattle.ore_reply.specs.declared.input.InputEnd.TheVariants.{Fault, TooLong, Memory}

-- the count rose where a read failed, and is the same where the answer is anything else
abbrev pub CountsFault : {A : Type 0} → Result A InputEnd → ℕ → ℕ → Type 0
CountsFault (Ok bytes) old new = new ≡ old
CountsFault (Err Fault) old new = Rose old new
CountsFault (Err TooLong) old new = new ≡ old
CountsFault (Err Memory) old new = new ≡ old

-- some bytes, as many as `count`, and then what is left now are what was left before
abbrev pub Takes : Option (List ℕ) → Option (List ℕ) → ℕ → Type 0
Takes old new count = (taken : List ℕ) × (length taken ≡ count) × (old ≡ prepend_known taken new)
