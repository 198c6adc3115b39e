-- The lines of a text, each with its end, the byte 10; the last one may lack it.
--     line            some words and the end of their line
--     onto_first      a byte before the first of some pieces
--     split_at        the pieces of a text between bytes of one value
--     raw_lines       the lines with their ends
use Rattle.std.specs.Prelude.{ℕ, nat_eq, if◌then◌else◌, List, [], ◌∷◌, ◌++◌}
use Rattle.std.specs.List.{join_with_byte}

-- the words with a space between each two, the byte 32, and the line end
abbrev pub line : List (List ℕ) → List ℕ
line words = join_with_byte 32 words ++ 10 ∷ []

-- where there is no piece, the byte is one
abbrev pub onto_first : ℕ → List (List ℕ) → List (List ℕ)
onto_first b [] = (b ∷ []) ∷ []
onto_first b (x ∷ xs) = (b ∷ x) ∷ xs

-- there is one piece more than such bytes
unfoldable pub split_at : ℕ → List ℕ → List (List ℕ)
split_at byte [] = [] ∷ []
split_at byte (b ∷ bs) = if nat_eq b byte then [] ∷ split_at byte bs else onto_first b (split_at byte bs)

-- a text that ends with a line end has no line behind it
unfoldable pub raw_lines : List ℕ → List (List ℕ)
raw_lines [] = []
raw_lines (b ∷ bs) = if nat_eq b 10 then (b ∷ []) ∷ raw_lines bs else onto_first b (raw_lines bs)
