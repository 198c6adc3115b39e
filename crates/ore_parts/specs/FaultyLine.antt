-- The faulty line of a text that isn't in a set of texts: the first line, with its end, that no text of the set with the
-- same lines before it has there. A text that ends too early is faulty at the line behind its last, and one that goes on is
-- faulty at the first line too many.
--     IsFaultyLine      the faulty line, from 1
--     HasOneFaultyLine     a text has at most one faulty line, and none where it is in the set
--     FollowedBy        a text of a set, and then this text
--     IsFaultyStart     the faulty line of a text that begins with none of a set, whatever were to follow
use Rattle.std.specs.Prelude.{◌≡◌, ◌++◌, ℕ, List}
use Rattle.ore_text.specs.FaultyLine as of_lines
use Rattle.ore_parts.specs.Lines.{raw_lines}

-- lines are compared with their ends
abbrev pub IsFaultyLine : (List ℕ → Type 0) → List ℕ → ℕ → Type 0
IsFaultyLine T text line = of_lines.IsFaultyLine raw_lines T text line

-- two faulty lines of one text are the same, and a text of the set has none
abbrev pub HasOneFaultyLine : (List ℕ → Type 0) → Type 0
HasOneFaultyLine T = of_lines.HasOneFaultyLine raw_lines T

-- the text begins with one of the set, and `after` is all that follows it
abbrev pub FollowedBy : (List ℕ → Type 0) → List ℕ → List ℕ → Type 0
FollowedBy T after text = (front : List ℕ) × T front × (text ≡ front ++ after)

-- this is the faulty line for the texts of the set that are followed by `after`, whatever that text is
abbrev pub IsFaultyStart : (List ℕ → Type 0) → List ℕ → ℕ → Type 0
IsFaultyStart T text line = (after : List ℕ) → IsFaultyLine (FollowedBy T after) text line
