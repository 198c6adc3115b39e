-- The parts of the line of a row: entries, and what stands between them.
--     is_stop             a comma or a line end, which no canonical text has
--     LacksStops          no byte of a text is one
--     BeginsWithStop      the first byte of a text is one, if there is a first byte
use Rattle.std.specs.Prelude.{◌≡◌, ℕ, Bool, true, ◌||◌, not, nat_eq, List, [], ◌∷◌}
use Rattle.std.specs.List.{list_all}

-- the byte 44 or the byte 10
abbrev pub is_stop : ℕ → Bool
is_stop b = nat_eq b 44 || nat_eq b 10

-- there is neither a comma nor a line end
abbrev pub LacksStops : List ℕ → Type 0
LacksStops text = list_all (λ b. not (is_stop b)) text ≡ true

-- nothing, or a text whose first byte is a comma or a line end
abbrev pub BeginsWithStop : List ℕ → Type 0
BeginsWithStop [] = Unit {0}
BeginsWithStop (b ∷ bs) = is_stop b ≡ true
