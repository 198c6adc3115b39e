-- The lines of a text. A line ends with the byte 10, which the last one may lack; one byte 13 directly before it belongs to
-- the end too. Where a line is due, comments are passed over and counted.
--     raw_lines, split_at      the lines with their ends; the pieces of a text between bytes of one value (ore_text)
--     onto_first       a byte before the first of some pieces (ore_text)
--     is_line_end      these bytes are the end of a line
--     content          a line without its end
--     is_comment       a line begins with `#`
--     Cursor           how many lines and bytes were passed, and the lines that are left
--     at_start, cursor_after  the cursor before a text, and behind one line more
--     next_of, next    the content of the next line that is no comment, and the cursor behind it
--     is_some_byte     a piece isn't empty
--     words            what stands between the spaces of a line
use Rattle.std.specs.Prelude.{ℕ, suc, ◌+◌, Bool, true, false, ◌&&◌, nat_eq, if◌then◌else◌, List, [], ◌∷◌, length}
use Rattle.std.specs.List.{filter}
use Rattle.std.specs.declared.option.Option.{Option}
use Rattle.std.specs.declared.option.Option.TheVariants.{None, Some}
pub use Rattle.ore_text.specs.Lines.{onto_first}
unfoldable pub use Rattle.ore_text.specs.Lines.{split_at, raw_lines}

-- the byte 10, or the bytes 13 and 10
abbrev pub is_line_end : List ℕ → Bool
is_line_end (b ∷ []) = nat_eq b 10
is_line_end (b ∷ c ∷ []) = nat_eq b 13 && nat_eq c 10
is_line_end bytes = false

-- up to the line end, if there is one
unfoldable pub content : List ℕ → List ℕ
content [] = []
content (b ∷ bs) = if is_line_end (b ∷ bs) then [] else b ∷ content bs

-- its first byte is 35, with no space before it
abbrev pub is_comment : List ℕ → Bool
is_comment [] = false
is_comment (b ∷ bs) = nat_eq b 35

-- how many lines and how many bytes were passed, and the lines that are left, with their ends
pub record Cursor : Type 0 where
  pub line : ℕ
  pub used : ℕ
  pub left : List (List ℕ)

-- nothing is passed
abbrev pub at_start : List ℕ → Cursor
at_start text = record { line = 0; used = 0; left = raw_lines text }

-- raw is the line with its end, and left are the lines behind it
abbrev pub cursor_after : Cursor → List ℕ → List (List ℕ) → Cursor
cursor_after c raw left = record { line = suc c.line; used = c.used + length raw; left = left }

-- the next line that is no comment, from a cursor by its parts; none where only comments are left
unfoldable pub next_of : ℕ → ℕ → List (List ℕ) → Option (List ℕ × Cursor)
next_of line used [] = None
next_of line used (raw ∷ left) =
    if is_comment raw then next_of (suc line) (used + length raw) left
    else Some (content raw, record { line = suc line; used = used + length raw; left = left })

-- the next line that is no comment, if there is one
abbrev pub next : Cursor → Option (List ℕ × Cursor)
next c = next_of c.line c.used c.left

-- the piece isn't empty
abbrev pub is_some_byte : List ℕ → Bool
is_some_byte [] = false
is_some_byte (b ∷ bs) = true

-- several spaces count as one, and those at the front and the end are dropped
unfoldable pub words : List ℕ → List (List ℕ)
words line = filter is_some_byte (split_at 32 line)
