-- What the tokens so far spell: partial trees. At each depth a sum may want its next term, and a product its next factor.
--     SumSide, ProductSide     what stands before a term of a sum; before a factor of a product
--     Outer                    both, outside a parenthesis
--     Base                     an atom but a name
--     Ending                   a factor, of which more may follow
--     Place                    what stands last
--     Partial                  the parts at all depths
--     atom_of, factor_of, term_of, expression_of     the trees that end where the parts end
--     whole_of                 the expression at one depth, where it ends
--     expression_before, term_before, factor_before, atom_before
--                              the tokens of a tree, the last one first, and others that stand before
--     sum_before, product_before, place_before, outside_before
--                              the same of the parts at one depth, and of those outside
--     before                   the tokens so far, the last one first
--     moves_number, moves_name, moves_sum, moves_star, moves_open
--                              the parts after a number, a name, `+` or `-` behind a term, `*`, `(`
--     moves_sign, moves_minus  after a minus before the first term, and after any minus
--     slash_after, caret_after, close_after    after `/` and `^` behind a factor; after `)` behind an expression
--     where_ended, where_some  going on where a factor ends; where there are parts
--     moves, run               the parts after a token, and after some, where they go on so
--     first                    nothing so far
use Rattle.std.specs.Prelude.{ℕ, List, [], ◌∷◌}
use Rattle.std.specs.declared.option.Option.{Option}
use Rattle.std.specs.declared.option.Option.TheVariants.{None, Some}
use Rattle.ore_expr.specs.Tokens.{Token, Number, Name, Plus, Minus, Star, Slash, Caret, Open, Close, Stray}
use Rattle.ore_expr.specs.Grammar.{Expression, Single, Negated, Sum, Difference, Term, Alone, Product, Factor, Bare, Power, Atom, Whole, Quotient, Variable, Group}

pub data SumSide : Type 0 where
  NoTerm : SumSide
  Negative : SumSide
  SumWith : Expression → SumSide
  DifferenceWith : Expression → SumSide

pub data ProductSide : Type 0 where
  NoFactor : ProductSide
  ProductWith : Term → ProductSide

pub data Outer : Type 0 where
  outer : SumSide → ProductSide → Outer

pub data Base : Type 0 where
  WholeBase : List ℕ → Base
  QuotientBase : List ℕ → List ℕ → Base
  GroupBase : Expression → Base

pub data Ending : Type 0 where
  NumberEnds : List ℕ → Ending
  NameEnds : List ℕ → Ending
  BaseEnds : Base → Ending
  FactorEnds : Factor → Ending

pub data Place : Type 0 where
  WantsOperand : Place
  Ended : Ending → Place
  WantsDenominator : List ℕ → Place
  WantsExponent : List ℕ → Place
  WantsPower : Base → Place

-- the depths outside stand innermost first
pub data Partial : Type 0 where
  partial : List Outer → SumSide → ProductSide → Place → Partial

abbrev pub first : Partial
first = partial [] NoTerm NoFactor WantsOperand

-- ---- the trees that end here

abbrev pub atom_of : Base → Atom
atom_of (WholeBase digits) = Whole digits
atom_of (QuotientBase digits others) = Quotient digits others
atom_of (GroupBase e) = Group e

abbrev pub factor_of : Ending → Factor
factor_of (NumberEnds digits) = Bare (Whole digits)
factor_of (NameEnds name) = Bare (Variable name)
factor_of (BaseEnds b) = Bare (atom_of b)
factor_of (FactorEnds f) = f

abbrev pub term_of : ProductSide → Factor → Term
term_of NoFactor f = Alone f
term_of (ProductWith t) f = Product t f

abbrev pub expression_of : SumSide → Term → Expression
expression_of NoTerm t = Single t
expression_of Negative t = Negated t
expression_of (SumWith e) t = Sum e t
expression_of (DifferenceWith e) t = Difference e t

abbrev pub whole_of : SumSide → ProductSide → Ending → Expression
whole_of s p x = expression_of s (term_of p (factor_of x))

-- ---- the tokens, the last one first

abbrev mutual
  pub expression_before : Expression → List Token → List Token
  expression_before (Single t) others = term_before t others
  expression_before (Negated t) others = term_before t (Minus ∷ others)
  expression_before (Sum e t) others = term_before t (Plus ∷ expression_before e others)
  expression_before (Difference e t) others = term_before t (Minus ∷ expression_before e others)

  pub term_before : Term → List Token → List Token
  term_before (Alone f) others = factor_before f others
  term_before (Product t f) others = factor_before f (Star ∷ term_before t others)

  pub factor_before : Factor → List Token → List Token
  factor_before (Bare a) others = atom_before a others
  factor_before (Power a digits) others = Number digits ∷ Caret ∷ atom_before a others

  pub atom_before : Atom → List Token → List Token
  atom_before (Whole digits) others = Number digits ∷ others
  atom_before (Quotient digits divisor) others = Number divisor ∷ Slash ∷ Number digits ∷ others
  atom_before (Variable name) others = Name name ∷ others
  atom_before (Group e) others = Close ∷ expression_before e (Open ∷ others)

abbrev pub sum_before : SumSide → List Token → List Token
sum_before NoTerm others = others
sum_before Negative others = Minus ∷ others
sum_before (SumWith e) others = Plus ∷ expression_before e others
sum_before (DifferenceWith e) others = Minus ∷ expression_before e others

abbrev pub product_before : ProductSide → List Token → List Token
product_before NoFactor others = others
product_before (ProductWith t) others = Star ∷ term_before t others

abbrev pub place_before : Place → List Token → List Token
place_before WantsOperand others = others
place_before (Ended x) others = factor_before (factor_of x) others
place_before (WantsDenominator digits) others = Slash ∷ Number digits ∷ others
place_before (WantsExponent name) others = Caret ∷ Name name ∷ others
place_before (WantsPower b) others = Caret ∷ atom_before (atom_of b) others

abbrev pub outside_before : List Outer → List Token
outside_before [] = []
outside_before (outer s p ∷ cs) = Open ∷ product_before p (sum_before s (outside_before cs))

abbrev pub before : Partial → List Token
before (partial cs s p place) = place_before place (product_before p (sum_before s (outside_before cs)))

-- ---- a token more

abbrev pub moves_number : (Place → Partial) → Place → List ℕ → Option Partial
moves_number at WantsOperand digits = Some (at (Ended (NumberEnds digits)))
moves_number at (WantsDenominator numerator) digits = Some (at (Ended (BaseEnds (QuotientBase numerator digits))))
moves_number at (WantsExponent name) digits = Some (at (Ended (FactorEnds (Power (Variable name) digits))))
moves_number at (WantsPower b) digits = Some (at (Ended (FactorEnds (Power (atom_of b) digits))))
moves_number at (Ended x) digits = None

abbrev pub moves_name : (Place → Partial) → Place → List ℕ → Option Partial
moves_name at WantsOperand name = Some (at (Ended (NameEnds name)))
moves_name at place name = None

abbrev pub moves_sum : List Outer → (Expression → SumSide) → SumSide → ProductSide → Place → Option Partial
moves_sum cs side s p (Ended x) = Some (partial cs (side (whole_of s p x)) NoFactor WantsOperand)
moves_sum cs side s p place = None

-- a minus before the first term
abbrev pub moves_sign : List Outer → ProductSide → SumSide → Option Partial
moves_sign cs NoFactor NoTerm = Some (partial cs Negative NoFactor WantsOperand)
moves_sign cs NoFactor s = None
moves_sign cs (ProductWith t) s = None

abbrev pub moves_minus : List Outer → SumSide → ProductSide → Place → Option Partial
moves_minus cs s p WantsOperand = moves_sign cs p s
moves_minus cs s p place = moves_sum cs DifferenceWith s p place

abbrev pub moves_star : List Outer → SumSide → ProductSide → Place → Option Partial
moves_star cs s p (Ended x) = Some (partial cs s (ProductWith (term_of p (factor_of x))) WantsOperand)
moves_star cs s p place = None

abbrev pub slash_after : (Place → Partial) → Ending → Option Partial
slash_after at (NumberEnds digits) = Some (at (WantsDenominator digits))
slash_after at x = None

abbrev pub caret_after : (Place → Partial) → Ending → Option Partial
caret_after at (NumberEnds digits) = Some (at (WantsPower (WholeBase digits)))
caret_after at (NameEnds name) = Some (at (WantsExponent name))
caret_after at (BaseEnds b) = Some (at (WantsPower b))
caret_after at (FactorEnds f) = None

abbrev pub where_ended : (Ending → Option Partial) → Place → Option Partial
where_ended next (Ended x) = next x
where_ended next place = None

abbrev pub moves_open : List Outer → SumSide → ProductSide → Place → Option Partial
moves_open cs s p WantsOperand = Some (partial (outer s p ∷ cs) NoTerm NoFactor WantsOperand)
moves_open cs s p place = None

-- the expression in parentheses is this
abbrev pub close_after : List Outer → Expression → Option Partial
close_after [] e = None
close_after (outer s p ∷ cs) e = Some (partial cs s p (Ended (BaseEnds (GroupBase e))))

abbrev pub moves : Partial → Token → Option Partial
moves (partial cs s p place) (Number digits) = moves_number (partial cs s p) place digits
moves (partial cs s p place) (Name name) = moves_name (partial cs s p) place name
moves (partial cs s p place) Plus = moves_sum cs SumWith s p place
moves (partial cs s p place) Minus = moves_minus cs s p place
moves (partial cs s p place) Star = moves_star cs s p place
moves (partial cs s p place) Slash = where_ended (slash_after (partial cs s p)) place
moves (partial cs s p place) Caret = where_ended (caret_after (partial cs s p)) place
moves (partial cs s p place) Open = moves_open cs s p place
moves (partial cs s p place) Close = where_ended (λ x. close_after cs (whole_of s p x)) place
moves (partial cs s p place) (Stray b) = None

abbrev pub where_some : (Partial → Option Partial) → Option Partial → Option Partial
where_some next None = None
where_some next (Some z) = next z

abbrev pub run : Partial → List Token → Option Partial
run z [] = Some z
run z (t ∷ ts) = where_some (λ w. run w ts) (moves z t)
