-- The declarations of a problem text.
--     is_name, is_digits        a word is a name; a word is one digit or more
--     is_count                  and has no leading zero, unless it is `0`
--     Declared                  a declared name, and its kind
--     no_coordinate             an index that no coordinate has
--     coordinate_index          the index of a declared name
--     step_value                the value of a step, which any number above 1000 stands for
--     named                     a declaration where its name is one
--     two_words, three_words, four_words, declared_by   the declaration that some words are
--     declaration_fault         what is wrong with a declaration, if anything is
use Rattle.std.specs.Prelude.{ℕ, Bool, true, false, ◌&&◌, not, nat_eq, nat_le, min, if◌then◌else◌, List, [], ◌∷◌, ◌++◌, length, codes}
use Rattle.std.specs.Char.{is_ascii_digit, is_ascii_alphabetic}
use Rattle.std.specs.List.{list_all}
use Rattle.std.specs.Str.{bytes_eq}
use Rattle.std.specs.Str.Parse.{digits_value}
use Rattle.std.specs.declared.option.Option.{Option}
use Rattle.std.specs.declared.option.Option.TheVariants.{None, Some}
use Rattle.std.specs.Option.{unwrap_or, is_some, option_map}
use Rattle.ore_monomial.specs.declared.signature.VarKind.{VarKind}
use Rattle.ore_monomial.specs.declared.signature.VarKind.TheVariants.{Coordinate, Constant, Plain, Differential, Shift, Delay}
use Rattle.ore_monomial.specs.declared.signature.SignatureFault.TheVariants.{TooMany}
use Rattle.ore_monomial.specs.Signature.{first_fault}
use Rattle.ore_expr.specs.Tokens.{is_name_byte}
use Rattle.ore_expr.specs.Faults.{index_of}
use Rattle.ore_problem.specs.declared.fault.ProblemReason.{ProblemReason}
use Rattle.ore_problem.specs.declared.fault.ProblemReason.TheVariants as reason

-- a letter and at most 15 name bytes behind it
abbrev pub is_name : List ℕ → Bool
is_name [] = false
is_name (b ∷ bs) = is_ascii_alphabetic b && (nat_le (length bs) 15 && list_all is_name_byte bs)

-- no byte but digits, and one at least
abbrev pub is_digits : List ℕ → Bool
is_digits [] = false
is_digits (b ∷ bs) = is_ascii_digit b && list_all is_ascii_digit bs

-- one digit, or several of which the first isn't `0`, the byte 48
abbrev pub is_count : List ℕ → Bool
is_count [] = false
is_count (b ∷ []) = is_ascii_digit b
is_count (b ∷ c ∷ bs) = not (nat_eq b 48) && is_digits (b ∷ c ∷ bs)

-- the bytes of the name, and what the variable is
pub record Declared : Type 0 where
  pub name : List ℕ
  pub kind : VarKind

-- there are at most 12 variables, so no variable has this index
abbrev pub no_coordinate : ℕ
no_coordinate = 255

-- the index of a declared name, and of any other the index that no coordinate has
abbrev pub coordinate_index : List (List ℕ) → List ℕ → ℕ
coordinate_index names name = unwrap_or (index_of names name) no_coordinate

-- a step is at most 1000, so 1001 stands for all that are too great
abbrev pub step_value : List ℕ → ℕ
step_value digits = min (digits_value 10 digits) 1001

-- where the name is of the form of names and its other words fit, a variable of this kind
abbrev pub named : List ℕ → Bool → VarKind → Option Declared
named name fits kind = if is_name name && fits then Some (record { name = name; kind = kind }) else None

module _ (names : List (List ℕ)) where
  -- `coordinate`, `constant` or `plain`, and the name
  abbrev pub two_words : List ℕ → List ℕ → Option Declared
  two_words word name =
      if bytes_eq word (codes "coordinate") then named name true Coordinate
      else if bytes_eq word (codes "constant") then named name true Constant
      else if bytes_eq word (codes "plain") then named name true Plain
      else None

  -- `differential`, the name, and the coordinate that it acts on
  abbrev pub three_words : List ℕ → List ℕ → List ℕ → Option Declared
  three_words word name on = if bytes_eq word (codes "differential") then named name (is_name on) (Differential (coordinate_index names on)) else None

  -- `shift` or `delay`, the name, the coordinate that it acts on, and the step
  abbrev pub four_words : List ℕ → List ℕ → List ℕ → List ℕ → Option Declared
  four_words word name on step =
      if bytes_eq word (codes "shift") then named name (is_name on && is_digits step) (Shift (coordinate_index names on) (step_value step))
      else if bytes_eq word (codes "delay") then named name (is_name on && is_digits step) (Delay (coordinate_index names on) (step_value step))
      else None

  -- COORD names a coordinate by any name
  unfoldable pub declared_by : List (List ℕ) → Option Declared
  declared_by (word ∷ name ∷ []) = two_words word name
  declared_by (word ∷ name ∷ on ∷ []) = three_words word name on
  declared_by (word ∷ name ∷ on ∷ step ∷ []) = four_words word name on step
  declared_by others = None

-- a 13th comes first, then a name that is there, then what is wrong with the kinds
unfoldable pub declaration_fault : List (List ℕ) → List VarKind → Declared → Option ProblemReason
declaration_fault names kinds d =
    if nat_le 12 (length kinds) then Some (reason.Signature TooMany)
    else if is_some (index_of names d.name) then Some reason.NameTwice
    else option_map reason.Signature (first_fault (kinds ++ d.kind ∷ []))
