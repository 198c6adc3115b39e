-- Accepted problem texts, whichever way they are read.
--     counted          the lines that are no comments, without their ends
--     LastCounts       the last line is no comment
--     IsStepNumber     the digits of a step
--     Declares         words that declare a name and its kind, where these names are declared before
--     AllDeclare       lines that declare names and kinds, one behind the other
--     AreEntries       what stands behind `row`, for so many columns
--     IsRow            the line of a row
--     Accepted         a text is accepted, and this is its problem
--     AcceptedFront    some bytes begin with such a text, and go on with another
use Rattle.std.specs.Prelude.{◌≡◌, ◌≤◌, ℕ, zero, suc, true, false, if◌then◌else◌, List, [], ◌∷◌, ◌++◌, length, codes, decimal}
use Rattle.std.specs.List.{AllZip, list_all}
use Rattle.std.specs.Str.Parse.{digits_value}
use Rattle.std.specs.declared.option.Option.TheVariants.{None, Some}
use Rattle.std.specs.declared.result.Result.TheVariants.{Ok}
use Rattle.ore_rational.specs.Field.{rationals}
use Rattle.ore_monomial.specs.Signature.{first_fault}
use Rattle.ore_monomial.specs.declared.signature.VarKind.{VarKind}
use Rattle.ore_monomial.specs.declared.signature.VarKind.TheVariants.{Coordinate, Constant, Plain, Differential, Shift, Delay}
use Rattle.ore_expr.specs.Faults.{index_of}
use Rattle.ore_text.specs.Names.{AreNames}
use Rattle.ore_expr.specs.Reading.{IsValue}
use Rattle.ore_rows.specs.Rows.{Row}
use Rattle.ore_problem.specs.Lines.{split_at, raw_lines, content, is_comment, words}
use Rattle.ore_problem.specs.Declarations.{is_digits}
use Rattle.ore_problem.specs.Problems.{System, is_space, begins_with_space}
use Rattle.ore_problem.specs.ProblemText.{order_word}

-- the lines in order, without their ends; comments are left out
abbrev pub counted : List (List ℕ) → List (List ℕ)
counted [] = []
counted (raw ∷ left) = if is_comment raw then counted left else content raw ∷ counted left

-- no comment stands last; of a text without lines this says nothing
abbrev pub LastCounts : List (List ℕ) → Type 0
LastCounts [] = Unit {0}
LastCounts (raw ∷ []) = is_comment raw ≡ false
LastCounts (raw ∷ next ∷ left) = LastCounts (next ∷ left)

-- ---- declarations

-- one digit or more, with this value
abbrev pub IsStepNumber : List ℕ → ℕ → Type 0
IsStepNumber digits step = (is_digits digits ≡ true) × (digits_value 10 digits ≡ step)

-- what an operator acts on is one of the names before it, and stands in the kind by its index
abbrev pub Declares : List (List ℕ) → List (List ℕ) → List ℕ → VarKind → Type 0
Declares before ws name Coordinate = ws ≡ codes "coordinate" ∷ name ∷ []
Declares before ws name Constant = ws ≡ codes "constant" ∷ name ∷ []
Declares before ws name Plain = ws ≡ codes "plain" ∷ name ∷ []
Declares before ws name (Differential on) = (other : List ℕ) × (ws ≡ codes "differential" ∷ name ∷ other ∷ []) × (index_of before other ≡ Some on)
Declares before ws name (Shift on step) = (other : List ℕ) × (digits : List ℕ) × (ws ≡ codes "shift" ∷ name ∷ other ∷ digits ∷ []) × (index_of before other ≡ Some on) × IsStepNumber digits step
Declares before ws name (Delay on step) = (other : List ℕ) × (digits : List ℕ) × (ws ≡ codes "delay" ∷ name ∷ other ∷ digits ∷ []) × (index_of before other ≡ Some on) × IsStepNumber digits step

-- a line for each name and its kind
abbrev pub AllDeclare : List (List ℕ) → List (List ℕ) → List (List ℕ) → List VarKind → Type 0
AllDeclare before [] [] [] = Unit {0}
AllDeclare before (line ∷ lines) (name ∷ names) (kind ∷ kinds) = Declares before (words line) name kind × AllDeclare (before ++ name ∷ []) lines names kinds
AllDeclare before lines names kinds = ⊥

-- ---- rows

-- the entries stand between commas, each an expression with its value; where there are no columns, only spaces may stand
abbrev pub AreEntries : System → ℕ → List ℕ → Row rationals → Type 0
AreEntries p zero rest row = (list_all is_space rest ≡ true) × (row ≡ [])
AreEntries p (suc n) rest row = (length row ≡ suc n) × AllZip (λ part f. IsValue p.signature p.names part (Ok f)) (split_at 44 rest) row

-- `row` alone, or before a space
abbrev pub IsRow : System → List ℕ → Row rationals → Type 0
IsRow p line row = (rest : List ℕ) × (line ≡ codes "row" ++ rest) × (begins_with_space rest ≡ true) × AreEntries p p.cols rest row

-- ---- texts

-- The text has these lines beside comments, and no comment behind the last. The names differ, and no kind has a fault behind
-- those before it.
pub record Accepted (text : List ℕ) (p : System) : Type 0 where
  pub header : List ℕ
  pub order : List ℕ
  pub declarations : List (List ℕ)
  pub matrix : List ℕ
  pub rows : List (List ℕ)
  pub last : List ℕ
  pub lines : counted (raw_lines text) ≡ header ∷ order ∷ (declarations ++ matrix ∷ (rows ++ last ∷ []))
  pub none_behind : LastCounts (raw_lines text)
  pub header_words : words header ≡ codes "ore" ∷ codes "1" ∷ []
  pub order_words : words order ≡ codes "order" ∷ order_word p.signature.order ∷ []
  pub names : AreNames p.names
  pub kinds : first_fault p.signature.kinds ≡ None
  pub declared : AllDeclare [] declarations p.names p.signature.kinds
  pub matrix_words : words matrix ≡ codes "matrix" ∷ decimal (length p.rows) ∷ decimal p.cols ∷ []
  pub row_count : length p.rows ≤ 64
  pub column_count : p.cols ≤ 64
  pub entries : AllZip (IsRow p) rows p.rows
  pub last_words : words last ≡ codes "end" ∷ []

-- The bytes are those of the accepted text `front` and of `rest`, and so are their lines: `front` ends where a line ends.
pub record AcceptedFront (bytes : List ℕ) (p : System) (front rest : List ℕ) : Type 0 where
  pub parts : bytes ≡ front ++ rest
  pub lines : raw_lines bytes ≡ raw_lines front ++ raw_lines rest
  pub accepted : Accepted front p
