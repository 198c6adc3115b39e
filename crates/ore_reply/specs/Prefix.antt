-- What was written of a text.
--     AppendsPrefix   the front of a text was appended
use Rattle.std.specs.Prelude.{◌≡◌, ℕ, ◌≤◌, List, length, take}
use Rattle.std.specs.declared.option.Option.{Option}
use Rattle.std.specs.Io.KnownBytes.{append_known}

-- the known bytes grew by the front of the text, up to some length
abbrev pub AppendsPrefix : Option (List ℕ) → Option (List ℕ) → List ℕ → Type 0
AppendsPrefix old new text = (count : ℕ) × (count ≤ length text) × (new ≡ append_known old (take count text))
