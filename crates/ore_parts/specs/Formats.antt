-- Formats: values that may be written, each with its text of whole lines. What a reader of one answers.
--     Format            values with their texts
--     IsTextOf          the text of some value that may be written
--     line_count        the number of lines of a text
--     Finds             the text begins with that of a value, and of no other; what is left follows it
--     ReadsOne          a reader found a value, or named the faulty line, whatever were to follow
--     PassesLine        a line is passed
--     FindsInLine       what a function finds in the line that is due
--     Spells            the value whose words a text is, or none where there is no such value
--     fixed             one text
--     one_line          a line of words for each value
--     sequence          a value and then another, whose format depends on the first: a line that names a kind or a count
--                       decides what follows it
--     items             so many values of one format
use Rattle.std.specs.Prelude.{◌≡◌, ◌≢◌, ◌⊎◌, ℕ, ◌+◌, List, [], ◌∷◌, ◌++◌, length, MatchOption}
use Rattle.std.specs.List.{All, flat_map}
use Rattle.std.specs.declared.option.Option.{Option}
use Rattle.std.specs.declared.option.Option.TheVariants.{None, Some}
use Rattle.std.specs.declared.result.Result.{Result}
use Rattle.std.specs.declared.result.Result.TheVariants.{Ok, Err}
use Rattle.ore_parts.specs.declared.fault.CertFault.{CertFault}
use Rattle.ore_parts.specs.declared.fault.CertFault.TheVariants.{Malformed, Memory}
use Rattle.ore_parts.specs.Lines.{LacksByte, Unread, raw_lines}
use Rattle.ore_parts.specs.Reading.{IsStartFault}

-- the text of each value, and which values may be written
pub record Format (X : Type 0) : Type 1 where
  pub text : X → List ℕ
  pub may : X → Type 0

-- a value that may be written has this text
abbrev pub IsTextOf : {X : Type 0} → Format X → List ℕ → Type 0
IsTextOf {X} F text = (x : X) × F.may x × (text ≡ F.text x)

-- a last line without its end counts too
abbrev pub line_count : List ℕ → ℕ
line_count text = length (raw_lines text)

-- the value may be written, and what was left is its text and then what is left now; the number of the line that is due
-- goes on by the lines of the text; and the text of no other value that may be written stands there
pub record Finds {X : Type 0} (F : Format X) (old : Unread) (x : X) (new : Unread) : Type 0 where
  pub may : F.may x
  pub text : old.left ≡ F.text x ++ new.left
  pub at : new.at ≡ old.at + line_count (F.text x)
  pub only : (y : X) (rest : List ℕ) → F.may y → old.left ≡ F.text y ++ rest → x ≡ y

-- of the lines that are left after a fault nothing is said, nor of want of memory
abbrev pub ReadsOne : {X : Type 0} → Format X → Unread → Result X CertFault → Unread → Type 0
ReadsOne F old (Ok x) new = Finds F old x new
ReadsOne F old (Err e) new = IsStartFault (IsTextOf F) old e

-- the value that is found may be written and has these words; or none is, and no value that may be written has them
abbrev pub Spells : {X : Type 0} → (X → List ℕ) → (X → Type 0) → List ℕ → Option X → Type 0
Spells {X} words may text result = MatchOption result ((x : X) → may x → text ≢ words x) (λ x. may x × (text ≡ words x))

-- the line without its end is passed, and what is left follows it
abbrev pub PassesLine : Unread → List ℕ → Unread → Type 0
PassesLine old due new = LacksByte 10 due × (old.left ≡ due ++ 10 ∷ new.left) × (new.at ≡ old.at + 1)

-- a function finds this value in the line that is due, which is passed; or it finds none there, or no whole line is left,
-- and that is the faulty line
unfoldable pub FindsInLine : {X : Type 0} → (List ℕ → Option X → Type 0) → Unread → Result X CertFault → Unread → Type 0
FindsInLine finds old (Ok x) new = (due : List ℕ) × PassesLine old due new × finds due (Some x)
FindsInLine finds old (Err (Malformed line)) new = (line ≡ old.at) × (LacksByte 10 old.left ⊎ ((due : List ℕ) × (after : Unread) × PassesLine old due after × finds due None))
FindsInLine finds old (Err Memory) new = ⊥

-- there is one value, and this is its text
abbrev pub fixed : List ℕ → Format (Unit {0})
fixed text = record { text = λ _. text; may = λ _. Unit {0} }

-- the words of a value, and the line end
abbrev pub one_line : {X : Type 0} → (X → List ℕ) → (X → Type 0) → Format X
one_line words may = record { text = λ x. words x ++ 10 ∷ []; may = may }

-- the text of a value, and then that of another
abbrev pub sequence : {X Y : Type 0} → Format X → (X → Format Y) → Format (X × Y)
sequence F G = record { text = λ p. F.text p.0 ++ (G p.0).text p.1; may = λ p. F.may p.0 × (G p.0).may p.1 }

-- so many values, with their texts one after another
abbrev pub items : {X : Type 0} → Format X → ℕ → Format (List X)
items F count = record { text = λ xs. flat_map F.text xs; may = λ xs. (length xs ≡ count) × All F.may xs }
