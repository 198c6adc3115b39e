-- The rows of a printed text.
--     tokens-place          the tokens of a text don't tell where it stands
--     sound_moves           whether a token has a fault doesn't tell either
--     expression_behind_space      a space before an expression changes nothing
--     entry_is              the canonical text of an entry, behind a space, is an expression with the entry as its value
--     AllPrint              each entry of a row can be printed
--     row_line, prints_row  the line of a row
--     row_is                and it is a row line of an accepted text
use Rattle.std.proofs.Common.{◌≡◌, ℕ, zero, suc, Bool, true, false, List, [], ◌∷◌, ◌++◌, length, map, refl, sym, ap, ◌∙◌, subst}
use Rattle.std.specs.Prelude.{if◌then◌else◌, nat_eq, nat_lt, codes}
use Rattle.std.specs.declared.option.Option.{Option}
use Rattle.std.specs.declared.option.Option.TheVariants.{None, Some}
use Rattle.std.specs.declared.result.Result.TheVariants.{Ok}
use Rattle.std.specs.List.{AllByRecursion, AllZip}
use Rattle.std.specs.Str.Parse.{digits_value}
use Rattle.ore_rational.specs.Field.{rationals}
use Rattle.ore_monomial.specs.LetterRule.{Operator}
use Rattle.ore_expr.specs.declared.fault.TextFault.{TextFault}
use Rattle.ore_expr.specs.Tokens.{Token, Number, Name, Plus, Minus, Star, Slash, Caret, Open, Close, Stray, token_at, more_bytes, Lexeme, lexemes_from, lexemes, tokens_of}
use Rattle.ore_expr.specs.Grammar.{Expression}
use Rattle.ore_expr.specs.Faults.{greatest_number, power_limit, open_count, greatest_depth, index_of, number_fault, name_fault, own_fault, IsSound, IsExpression}
use Rattle.ore_text.specs.CanonicalText.{operator_text}
use Rattle.ore_text.specs.RowText.{listed, row_text}
use Rattle.ore_expr.specs.Laws.{IsPrintable}
use Rattle.ore_expr.proofs.CanonicalReads.{canonical_is_read}
use Rattle.ore_text.specs.Names.{AreNames}
use Rattle.ore_expr.specs.Reading.{IsValue}
use Rattle.ore_rows.specs.Rows.{Row}
use Rattle.ore_problem.specs.Lines.{split_at}
use Rattle.ore_problem.specs.Problems.{System}
use Rattle.ore_problem.specs.Accepted.{AreEntries, IsRow}
use Rattle.ore_problem.proofs.AgainBytes.{IsPlain, Lacks, plain_lacks, plain_cons, plain_comma, plain_space, plain_operator}
use Rattle.ore_problem.proofs.AgainLines.{split_at-append, split_at-piece, IsLine, plain_line, line_append, Prints, prints_line}

-- ---- a space in front

pub tokens-place : (k place other : ℕ) (text : List ℕ) → tokens_of (lexemes_from k place text) ≡ tokens_of (lexemes_from k other text)
unfolding lexemes_from
tokens-place zero place other [] = refl
tokens-place (suc k) place other [] = refl
tokens-place (suc k) place other (b ∷ bs) = tokens-place k (suc place) (suc other) bs
tokens-place zero place other (b ∷ bs) = by (nat_eq b 32) (tokens-place 0 (suc place) (suc other) bs) (tokens-place (more_bytes (token_at b bs)) (suc place) (suc other) bs)
  where
    by : (t : Bool) → tokens_of (lexemes_from 0 (suc place) bs) ≡ tokens_of (lexemes_from 0 (suc other) bs)
        → tokens_of (lexemes_from (more_bytes (token_at b bs)) (suc place) bs) ≡ tokens_of (lexemes_from (more_bytes (token_at b bs)) (suc other) bs)
        → tokens_of (if t then lexemes_from 0 (suc place) bs else record { place = place; token = token_at b bs } ∷ lexemes_from (more_bytes (token_at b bs)) (suc place) bs)
        ≡ tokens_of (if t then lexemes_from 0 (suc other) bs else record { place = other; token = token_at b bs } ∷ lexemes_from (more_bytes (token_at b bs)) (suc other) bs)
    by true e f = e
    by false e f = ap (λ ts. token_at b bs ∷ ts) f

-- a fault that isn't there isn't there elsewhere
none_else : (b : Bool) (f g : TextFault) (o p : Option TextFault) → (if b then Some f else o) ≡ None → (o ≡ None → p ≡ None) → (if b then Some g else p) ≡ None
none_else true f g o p e h = cc
none_else false f g o p e h = h e

number_moves : (before : List Token) (place other n : ℕ) → number_fault before place n ≡ None → number_fault before other n ≡ None
number_moves (Caret ∷ before) place other n h = none_else (nat_lt (power_limit before) n) _ _ None None h (λ e. e)
number_moves (Slash ∷ before) place other n h = none_else (nat_eq n 0) _ _ _ _ h (λ e. none_else (nat_lt greatest_number n) _ _ None None e (λ f. f))
number_moves before place other n h = none_else (nat_lt greatest_number n) _ _ None None h (λ e. e)

name_moves : (o : Option ℕ) (place other : ℕ) → name_fault place o ≡ None → name_fault other o ≡ None
name_moves None place other h = cc
name_moves (Some x) place other h = refl

open_moves : (b : Bool) (f g : TextFault) → (if b then None else Some f) ≡ None → (if b then None else Some g) ≡ None
open_moves true f g h = refl
open_moves false f g h = cc

module _ (names : List (List ℕ)) where
  own_moves : (before : List Token) (place other : ℕ) (t : Token) → own_fault names before place t ≡ None → own_fault names before other t ≡ None
  own_moves before place other (Number digits) h = number_moves before place other (digits_value 10 digits) h
  own_moves before place other (Name name) h = name_moves (index_of names name) place other h
  own_moves before place other Open h = open_moves (nat_lt (open_count before) greatest_depth) _ _ h
  own_moves before place other Plus h = refl
  own_moves before place other Minus h = refl
  own_moves before place other Star h = refl
  own_moves before place other Slash h = refl
  own_moves before place other Caret h = refl
  own_moves before place other Close h = refl
  own_moves before place other (Stray b) h = refl

  pub sound_moves : (before : List Token) (xs ys : List Lexeme) → tokens_of xs ≡ tokens_of ys → IsSound names before xs → IsSound names before ys
  sound_moves before [] [] e h = tt
  sound_moves before [] (y ∷ ys) e h = cc
  sound_moves before (x ∷ xs) [] e h = cc
  sound_moves before (x ∷ xs) (y ∷ ys) e h =
      let first : x.token ≡ y.token = cc in
      let rest : tokens_of xs ≡ tokens_of ys = cc in (
        subst (λ t. own_fault names before y.place t ≡ None) first (own_moves before x.place y.place x.token h.0),
        sound_moves (y.token ∷ before) xs ys rest (subst (λ t. IsSound names (t ∷ before) xs) first h.1),
      )

  pub expression_behind_space : (text : List ℕ) (e : Expression) → IsExpression names text e → IsExpression names (32 ∷ text) e
  unfolding lexemes_from
  expression_behind_space text e h =
      let same = tokens-place 0 0 1 text in
      record { spelled = sym same ∙ h.spelled; sound = sound_moves [] (lexemes text) (lexemes (32 ∷ text)) same h.sound }

-- ---- the texts of entries

module _ (p : System) where
  abbrev text_of : Operator rationals → List ℕ
  text_of f = operator_text p.names p.signature.order f

  abbrev entries_text : Row rationals → List ℕ
  entries_text row = listed (map text_of row)

  -- the line without its end
  abbrev pub row_line : Row rationals → List ℕ
  row_line [] = codes "row"
  row_line (f ∷ row) = codes "row" ++ 32 ∷ entries_text (f ∷ row)

  -- the entries with the space before each
  abbrev parts : Row rationals → List (List ℕ)
  parts row = map (λ f. 32 ∷ text_of f) row

  abbrev pub AllPrint : Row rationals → Type 0
  AllPrint row = AllByRecursion (IsPrintable p.signature p.names) row

  entry_is : (f : Operator rationals) → IsPrintable p.signature p.names f → IsValue p.signature p.names (32 ∷ text_of f) (Ok f)
  entry_is f h = let c = canonical_is_read p.signature p.names f h in (c.0, expression_behind_space p.names (text_of f) c.0 c.1, c.2)

  parts_are : (row : Row rationals) → AllPrint row → AllZip (λ part f. IsValue p.signature p.names part (Ok f)) (parts row) row
  parts_are [] h = tt
  parts_are (f ∷ row) h = (entry_is f h.0, parts_are row h.1)

  module _ (are : AreNames p.names) where
    plain_text : (f : Operator rationals) → IsPlain (text_of f)
    plain_text f = plain_operator p.names p.signature.order f are

    no_comma : (f : Operator rationals) → Lacks 44 (32 ∷ text_of f)
    no_comma f = plain_lacks 44 plain_comma (32 ∷ text_of f) (plain_cons 32 (text_of f) plain_space (plain_text f))

    split_at-entries : (f : Operator rationals) (row : Row rationals) → split_at 44 (32 ∷ entries_text (f ∷ row)) ≡ parts (f ∷ row)
    split_at-entries f [] = split_at-piece 44 (32 ∷ text_of f) (no_comma f)
    split_at-entries f (g ∷ row) = split_at-append 44 (32 ∷ text_of f) (32 ∷ entries_text (g ∷ row)) refl (no_comma f) ∙ ap (λ ts. (32 ∷ text_of f) ∷ ts) (split_at-entries g row)

    -- ---- lines

    comma_line : (text : List ℕ) → IsLine text → IsLine (codes ", " ++ text)
    comma_line text h = line_append (codes ", ") text (record { new_line = refl; return = refl; hash = refl }) h

    entries_line : (row : Row rationals) → IsLine (entries_text row)
    entries_line [] = record { new_line = refl; return = refl; hash = refl }
    entries_line (f ∷ []) = plain_line (text_of f) (plain_text f)
    entries_line (f ∷ g ∷ row) = line_append (text_of f) (codes ", " ++ entries_text (g ∷ row)) (plain_line (text_of f) (plain_text f)) (comma_line (entries_text (g ∷ row)) (entries_line (g ∷ row)))

    pub prints_row : (row : Row rationals) → Prints (row_text p.names p.signature.order row) (row_line row ∷ [])
    prints_row [] = prints_line (codes "row") (record { new_line = refl; return = refl; hash = refl })
    prints_row (f ∷ row) =
        prints_line (codes "row" ++ 32 ∷ entries_text (f ∷ row)) (line_append (codes "row ") (entries_text (f ∷ row)) (record { new_line = refl; return = refl; hash = refl }) (entries_line (f ∷ row)))

    pub row_is : (row : Row rationals) → length row ≡ p.cols → AllPrint row → IsRow p (row_line row) row
    row_is [] e h = ([], refl, refl, subst (λ n. AreEntries p n [] []) e (refl, refl))
    row_is (f ∷ row) e h =
        let all : AreEntries p (suc (length row)) (32 ∷ entries_text (f ∷ row)) (f ∷ row) =
        (refl, subst (λ ts. AllZip (λ part g. IsValue p.signature p.names part (Ok g)) ts (f ∷ row)) (sym (split_at-entries f row)) (parts_are (f ∷ row) h)) in
        (32 ∷ entries_text (f ∷ row), refl, refl, subst (λ n. AreEntries p n (32 ∷ entries_text (f ∷ row)) (f ∷ row)) e all)
