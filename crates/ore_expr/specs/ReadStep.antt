-- Reading a text byte by byte.
--     rest_read        the state that the rest of a text leads to, where some bytes of a token are passed over first
--     IsStep           what one byte more does: the bytes then passed over, or a fault
use Rattle.std.specs.Prelude.{◌≡◌, ℕ, ◌+◌, List, drop}
use Rattle.std.specs.declared.result.Result.{Result}
use Rattle.std.specs.declared.result.Result.TheVariants.{Ok, Err}
use Rattle.ore_expr.specs.declared.fault.TextFault.{TextFault}
use Rattle.ore_expr.specs.Tokens.{lexemes_from}
use Rattle.ore_expr.specs.Parsing.{State, takes_all}
use Rattle.ore_expr.specs.Reading.{FaultReads}

-- the text from the place on, read from the state s; its first skipped bytes belong to a token that is taken already
abbrev pub rest_read : List (List ℕ) → List ℕ → State → ℕ → ℕ → Result State TextFault
rest_read names text s skipped place = takes_all names s (lexemes_from skipped place (drop place text))

-- the rest leads to the same from the old state and, a byte later, from the new one; a fault is that of the rest
abbrev pub IsStep : List (List ℕ) → List ℕ → ℕ → ℕ → State → State → Result ℕ TextFault → Type 0
IsStep names text place skipped old new (Ok next) = rest_read names text old skipped place ≡ rest_read names text new next (place + 1)
IsStep names text place skipped old new (Err fault) = FaultReads fault (rest_read names text old skipped place)
