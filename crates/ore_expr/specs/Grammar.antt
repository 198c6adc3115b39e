-- The grammar of expressions, as trees and the tokens that spell them. Products bind tighter than sums, powers tighter
-- than products, and both associate to the left.
--     Expression       terms added and subtracted, a minus may stand before the first
--     Term             factors multiplied
--     Factor           an atom, or a power of one
--     Atom             a number, a quotient of numbers, a name, or an expression in parentheses
--     expression_tokens, term_tokens, factor_tokens, atom_tokens     the spelling of each
--     IsSentence       these tokens spell an expression
--     IsSentencePrefix  more tokens may follow so that all spell an expression
use Rattle.std.specs.Prelude.{◌≡◌, ℕ, List, [], ◌∷◌, ◌++◌}
use Rattle.ore_expr.specs.Tokens.{Token, Number, Name, Plus, Minus, Star, Slash, Caret, Open, Close}

mutual
  -- a first term, with a minus or without, or an expression and the term that is added or subtracted next
  pub data Expression : Type 0 where
    Single : Term → Expression
    Negated : Term → Expression
    Sum : Expression → Term → Expression
    Difference : Expression → Term → Expression

  -- a first factor, or a term and the factor that it is multiplied with next
  pub data Term : Type 0 where
    Alone : Factor → Term
    Product : Term → Factor → Term

  -- an atom, or an atom and the digits of its power
  pub data Factor : Type 0 where
    Bare : Atom → Factor
    Power : Atom → List ℕ → Factor

  -- the digits of a number, those of numerator and denominator, the bytes of a name, or what stands in parentheses
  pub data Atom : Type 0 where
    Whole : List ℕ → Atom
    Quotient : List ℕ → List ℕ → Atom
    Variable : List ℕ → Atom
    Group : Expression → Atom

unfoldable mutual
  -- `+` and `-` stand between terms, and `-` may stand before the first
  pub expression_tokens : Expression → List Token
  expression_tokens (Single t) = term_tokens t
  expression_tokens (Negated t) = Minus ∷ term_tokens t
  expression_tokens (Sum e t) = expression_tokens e ++ Plus ∷ term_tokens t
  expression_tokens (Difference e t) = expression_tokens e ++ Minus ∷ term_tokens t

  -- `*` stands between factors
  pub term_tokens : Term → List Token
  term_tokens (Alone f) = factor_tokens f
  term_tokens (Product t f) = term_tokens t ++ Star ∷ factor_tokens f

  -- `^` stands before the power
  pub factor_tokens : Factor → List Token
  factor_tokens (Bare a) = atom_tokens a
  factor_tokens (Power a digits) = atom_tokens a ++ Caret ∷ Number digits ∷ []

  -- `/` stands before the denominator, and `(` and `)` around an expression
  pub atom_tokens : Atom → List Token
  atom_tokens (Whole digits) = Number digits ∷ []
  atom_tokens (Quotient digits others) = Number digits ∷ Slash ∷ Number others ∷ []
  atom_tokens (Variable name) = Name name ∷ []
  atom_tokens (Group e) = Open ∷ expression_tokens e ++ Close ∷ []

-- there is a tree with these tokens
abbrev pub IsSentence : List Token → Type 0
IsSentence ts = (e : Expression) × (ts ≡ expression_tokens e)

-- with more tokens behind them, or none, they spell an expression
abbrev pub IsSentencePrefix : List Token → Type 0
IsSentencePrefix ts = (more : List Token) × IsSentence (ts ++ more)
