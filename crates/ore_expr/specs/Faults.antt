-- What is wrong with an expression. Each token may have a fault of its own, by the tokens before it; it is a syntax fault
-- where the tokens up to it begin no expression. The first token with a fault decides, and syntax comes first there.
--     greatest_number, greatest_exponent, greatest_power, greatest_depth     the limits
--     index_of           the index of a declared name
--     open_count         how many parentheses are open behind some tokens, the last token first
--     power_limit        the greatest power of what stands before `^`
--     number_fault       the fault of a number, where others stand before it, the last one first
--     name_fault, own_fault       of a name; of any token, where others stand before it
--     IsSoundAt, IsFaultAt        the token that follows these has no fault; has this one
--     IsSound, IsFirstFault       none of the lexemes that follow has a fault; the first that has one has this one
--     IsExpression       a text is spelled as an expression, and no token has a fault
--     IsFault            the fault of a text
use Rattle.std.specs.Prelude.{◌≡◌, ◌⊎◌, ℕ, suc, ◌-◌, nat_lt, nat_eq, if◌then◌else◌, List, [], ◌∷◌, ◌++◌, length, reverse}
use Rattle.std.specs.declared.option.Option.{Option}
use Rattle.std.specs.declared.option.Option.TheVariants.{None, Some}
use Rattle.std.specs.Str.Parse.{digits_value}
use Rattle.ore_expr.specs.declared.fault.TextFault.{TextFault}
use Rattle.ore_expr.specs.declared.fault.TextFault.TheVariants.{Syntax, UnknownName, NumberTooWide, ZeroDenominator, PowerTooLarge, TooDeep}
pub use Rattle.ore_text.specs.Names.{index_of}
use Rattle.ore_expr.specs.Tokens.{Token, Number, Name, Slash, Caret, Open, Close, Lexeme, lexemes, tokens_of}
use Rattle.ore_expr.specs.Grammar.{Expression, expression_tokens, IsSentence, IsSentencePrefix}

-- 2^127 - 1
abbrev pub greatest_number : ℕ
greatest_number = 170141183460469231731687303715884105727

-- of a name
abbrev pub greatest_exponent : ℕ
greatest_exponent = 32767

-- of a number or of parentheses
abbrev pub greatest_power : ℕ
greatest_power = 64

-- of parentheses that are open at one time
abbrev pub greatest_depth : ℕ
greatest_depth = 64

-- one more for each `(`, and one less for each `)`, which never goes below 0
abbrev pub open_count : List Token → ℕ
open_count [] = 0
open_count (Open ∷ before) = suc (open_count before)
open_count (Close ∷ before) = open_count before - 1
open_count (_ ∷ before) = open_count before

-- the limit of a name, where a name stands last, else that of another atom
abbrev pub power_limit : List Token → ℕ
power_limit (Name name ∷ before) = greatest_exponent
power_limit before = greatest_power

-- too great a power behind `^`; 0, or too great a number, behind `/`; too great a number elsewhere
abbrev pub number_fault : List Token → ℕ → ℕ → Option TextFault
number_fault (Caret ∷ before) place n = if nat_lt (power_limit before) n then Some (PowerTooLarge place) else None
number_fault (Slash ∷ before) place n =
    if nat_eq n 0 then Some (ZeroDenominator place) else if nat_lt greatest_number n then Some (NumberTooWide place) else None
number_fault before place n = if nat_lt greatest_number n then Some (NumberTooWide place) else None

-- a name without an index isn't declared
abbrev pub name_fault : ℕ → Option ℕ → Option TextFault
name_fault place None = Some (UnknownName place)
name_fault place (Some index) = None

-- a number and a name have theirs, and so has a `(` that opens too many; no other token has one
abbrev pub own_fault : List (List ℕ) → List Token → ℕ → Token → Option TextFault
own_fault names before place (Number digits) = number_fault before place (digits_value 10 digits)
own_fault names before place (Name name) = name_fault place (index_of names name)
own_fault names before place Open = if nat_lt (open_count before) greatest_depth then None else Some (TooDeep place)
own_fault names before place token = None

module _ (names : List (List ℕ)) where
  -- an expression begins with the tokens up to this one, which has no fault of its own
  pub record IsSoundAt (before : List Token) (x : Lexeme) : Type 0 where
    pub begins : IsSentencePrefix (reverse before ++ x.token ∷ [])
    pub own : own_fault names before x.place x.token ≡ None

  -- a syntax fault where no expression begins with the tokens up to this one, else the fault of its own
  abbrev pub IsFaultAt : List Token → Lexeme → TextFault → Type 0
  IsFaultAt before x fault =
      ((¬ IsSentencePrefix (reverse before ++ x.token ∷ [])) × (fault ≡ Syntax x.place))
      ⊎ (IsSentencePrefix (reverse before ++ x.token ∷ []) × (own_fault names before x.place x.token ≡ Some fault))

  -- each of the lexemes that follow is without a fault of its own
  abbrev pub IsSound : List Token → List Lexeme → Type 0
  IsSound before [] = Unit {0}
  IsSound before (x ∷ xs) = (own_fault names before x.place x.token ≡ None) × IsSound (x.token ∷ before) xs

  -- behind the last token the text ends too early, at its length
  abbrev pub IsFirstFault : ℕ → List Token → List Lexeme → TextFault → Type 0
  IsFirstFault end before [] fault = (¬ IsSentence (reverse before)) × (fault ≡ Syntax end)
  IsFirstFault end before (x ∷ xs) fault = IsFaultAt before x fault ⊎ (IsSoundAt before x × IsFirstFault end (x.token ∷ before) xs fault)

  -- the tokens of the text are those of the tree, and none has a fault of its own
  pub record IsExpression (text : List ℕ) (e : Expression) : Type 0 where
    pub spelled : tokens_of (lexemes text) ≡ expression_tokens e
    pub sound : IsSound [] (lexemes text)

  -- the fault of the first token that has one, or that the text ends too early
  abbrev pub IsFault : List ℕ → TextFault → Type 0
  IsFault text fault = IsFirstFault (length text) [] (lexemes text) fault
