-- How partial trees go on.
--     whole_before              the tokens of a tree that ends where its parts end
--     TakesToken, moves-before  a token that is taken stands before what follows
--     ending_of, behind_factor, behind_term, behind     the parts where a factor, a term, an expression ends
--     ended, ended-behind       the expression that ends where its parts end; behind an expression it is this one
--     run-expression            the tokens of an expression lead behind it
--     turned-expression         the tokens of an expression, turned round
use Rattle.std.proofs.Common.{◌≡◌, ℕ, List, [], ◌∷◌, ◌++◌, sym, refl, ap, ◌∙◌, append_assoc}
use Rattle.std.specs.declared.option.Option.{Option}
use Rattle.std.specs.declared.option.Option.TheVariants.{None, Some}
use mathlib.Core.List.{reverse_aux}
use Rattle.ore_expr.specs.Tokens.{Token, Number, Name, Plus, Minus, Star, Slash, Caret, Open, Close, Stray}
use Rattle.ore_expr.specs.Grammar.{Expression, Single, Negated, Sum, Difference, Term, Alone, Product, Factor, Bare, Power, Atom, Whole, Quotient, Variable, Group, expression_tokens, term_tokens, factor_tokens, atom_tokens}
use Rattle.ore_expr.proofs.PartialTrees.{SumSide, NoTerm, Negative, SumWith, DifferenceWith, ProductSide, NoFactor, ProductWith, Outer, outer, QuotientBase, GroupBase, Ending, NumberEnds, NameEnds, BaseEnds, FactorEnds, WantsOperand, Ended, WantsDenominator, WantsExponent, WantsPower, Partial, partial, factor_of, term_of, expression_of, whole_of, expression_before, term_before, factor_before, atom_before, sum_before, product_before, outside_before, before, moves_sign, moves, where_some, run}

term_of-before : (p : ProductSide) (f : Factor) (others : List Token) → term_before (term_of p f) others ≡ factor_before f (product_before p others)
term_of-before NoFactor f others = refl
term_of-before (ProductWith t) f others = refl

expression_of-before : (s : SumSide) (t : Term) (others : List Token) → expression_before (expression_of s t) others ≡ term_before t (sum_before s others)
expression_of-before NoTerm t others = refl
expression_of-before Negative t others = refl
expression_of-before (SumWith e) t others = refl
expression_of-before (DifferenceWith e) t others = refl

pub whole_before : (s : SumSide) (p : ProductSide) (f : Factor) (others : List Token) → expression_before (expression_of s (term_of p f)) others ≡ factor_before f (product_before p (sum_before s others))
whole_before s p f others = expression_of-before s (term_of p f) others ∙ term_of-before p f (sum_before s others)

-- ---- a token that is taken

abbrev pub TakesToken : Partial → Token → Option Partial → Type 0
TakesToken z t None = Unit {0}
TakesToken z t (Some w) = before w ≡ t ∷ before z

sign-before : (cs : List Outer) (p : ProductSide) (s : SumSide) → TakesToken (partial cs s p WantsOperand) Minus (moves_sign cs p s)
sign-before cs NoFactor NoTerm = refl
sign-before cs NoFactor s = tt
sign-before cs (ProductWith t) s = tt

pub moves-before : (z : Partial) (t : Token) → TakesToken z t (moves z t)
moves-before (partial cs s p WantsOperand) (Number digits) = refl
moves-before (partial cs s p (WantsDenominator n)) (Number digits) = refl
moves-before (partial cs s p (WantsExponent x)) (Number digits) = refl
moves-before (partial cs s p (WantsPower b)) (Number digits) = refl
moves-before (partial cs s p (Ended x)) (Number digits) = tt
moves-before (partial cs s p WantsOperand) (Name name) = refl
moves-before (partial cs s p place) (Name name) = tt
moves-before (partial cs s p (Ended x)) Plus = ap (λ ts. Plus ∷ ts) (whole_before s p (factor_of x) (outside_before cs))
moves-before (partial cs s p place) Plus = tt
moves-before (partial cs s p WantsOperand) Minus = sign-before cs p s
moves-before (partial cs s p (Ended x)) Minus = ap (λ ts. Minus ∷ ts) (whole_before s p (factor_of x) (outside_before cs))
moves-before (partial cs s p place) Minus = tt
moves-before (partial cs s p (Ended x)) Star = ap (λ ts. Star ∷ ts) (term_of-before p (factor_of x) (sum_before s (outside_before cs)))
moves-before (partial cs s p place) Star = tt
moves-before (partial cs s p (Ended (NumberEnds n))) Slash = refl
moves-before (partial cs s p (Ended x)) Slash = tt
moves-before (partial cs s p place) Slash = tt
moves-before (partial cs s p (Ended (NumberEnds n))) Caret = refl
moves-before (partial cs s p (Ended (NameEnds n))) Caret = refl
moves-before (partial cs s p (Ended (BaseEnds n))) Caret = refl
moves-before (partial cs s p (Ended (FactorEnds f))) Caret = tt
moves-before (partial cs s p place) Caret = tt
moves-before (partial cs s p WantsOperand) Open = refl
moves-before (partial cs s p place) Open = tt
moves-before (partial [] s p (Ended x)) Close = tt
moves-before (partial (outer s p ∷ cs) u q (Ended x)) Close = ap (λ ts. Close ∷ ts) (whole_before u q (factor_of x) (outside_before (outer s p ∷ cs)))
moves-before (partial cs s p place) Close = tt
moves-before (partial cs s p place) (Stray b) = tt

-- ---- where a tree ends

abbrev pub ending_of : Factor → Ending
ending_of (Bare (Whole digits)) = NumberEnds digits
ending_of (Bare (Quotient digits others)) = BaseEnds (QuotientBase digits others)
ending_of (Bare (Variable name)) = NameEnds name
ending_of (Bare (Group e)) = BaseEnds (GroupBase e)
ending_of (Power a digits) = FactorEnds (Power a digits)

abbrev pub behind_factor : List Outer → SumSide → ProductSide → Factor → Partial
behind_factor cs s p f = partial cs s p (Ended (ending_of f))

abbrev pub behind_term : List Outer → SumSide → Term → Partial
behind_term cs s (Alone f) = behind_factor cs s NoFactor f
behind_term cs s (Product t f) = behind_factor cs s (ProductWith t) f

abbrev pub behind : List Outer → Expression → Partial
behind cs (Single t) = behind_term cs NoTerm t
behind cs (Negated t) = behind_term cs Negative t
behind cs (Sum e t) = behind_term cs (SumWith e) t
behind cs (Difference e t) = behind_term cs (DifferenceWith e) t

factor_of-ending_of : (f : Factor) → factor_of (ending_of f) ≡ f
factor_of-ending_of (Bare (Whole digits)) = refl
factor_of-ending_of (Bare (Quotient digits others)) = refl
factor_of-ending_of (Bare (Variable name)) = refl
factor_of-ending_of (Bare (Group e)) = refl
factor_of-ending_of (Power a digits) = refl

-- any expression where none ends
abbrev pub ended : Partial → Expression
ended (partial cs s p (Ended x)) = whole_of s p x
ended z = Single (Alone (Bare (Whole [])))

ended-behind_term : (cs : List Outer) (s : SumSide) (t : Term) → ended (behind_term cs s t) ≡ expression_of s t
ended-behind_term cs s (Alone f) = ap (λ g. expression_of s (Alone g)) (factor_of-ending_of f)
ended-behind_term cs s (Product t f) = ap (λ g. expression_of s (Product t g)) (factor_of-ending_of f)

pub ended-behind : (cs : List Outer) (e : Expression) → ended (behind cs e) ≡ e
ended-behind cs (Single t) = ended-behind_term cs NoTerm t
ended-behind cs (Negated t) = ended-behind_term cs Negative t
ended-behind cs (Sum e t) = ended-behind_term cs (SumWith e) t
ended-behind cs (Difference e t) = ended-behind_term cs (DifferenceWith e) t

-- ---- a tree is taken

star-behind_term : (cs : List Outer) (s : SumSide) (t : Term) → moves (behind_term cs s t) Star ≡ Some (partial cs s (ProductWith t) WantsOperand)
star-behind_term cs s (Alone f) = ap (λ g. Some (partial cs s (ProductWith (Alone g)) WantsOperand)) (factor_of-ending_of f)
star-behind_term cs s (Product t f) = ap (λ g. Some (partial cs s (ProductWith (Product t g)) WantsOperand)) (factor_of-ending_of f)

plus-behind_term : (cs : List Outer) (s : SumSide) (t : Term) → moves (behind_term cs s t) Plus ≡ Some (partial cs (SumWith (expression_of s t)) NoFactor WantsOperand)
plus-behind_term cs s (Alone f) = ap (λ g. Some (partial cs (SumWith (expression_of s (Alone g))) NoFactor WantsOperand)) (factor_of-ending_of f)
plus-behind_term cs s (Product t f) = ap (λ g. Some (partial cs (SumWith (expression_of s (Product t g))) NoFactor WantsOperand)) (factor_of-ending_of f)

minus-behind_term : (cs : List Outer) (s : SumSide) (t : Term) → moves (behind_term cs s t) Minus ≡ Some (partial cs (DifferenceWith (expression_of s t)) NoFactor WantsOperand)
minus-behind_term cs s (Alone f) = ap (λ g. Some (partial cs (DifferenceWith (expression_of s (Alone g))) NoFactor WantsOperand)) (factor_of-ending_of f)
minus-behind_term cs s (Product t f) = ap (λ g. Some (partial cs (DifferenceWith (expression_of s (Product t g))) NoFactor WantsOperand)) (factor_of-ending_of f)

close-behind_term : (cs : List Outer) (u : SumSide) (q : ProductSide) (s : SumSide) (t : Term) → moves (behind_term (outer u q ∷ cs) s t) Close ≡ Some (partial cs u q (Ended (BaseEnds (GroupBase (expression_of s t)))))
close-behind_term cs u q s (Alone f) = ap (λ g. Some (partial cs u q (Ended (BaseEnds (GroupBase (expression_of s (Alone g))))))) (factor_of-ending_of f)
close-behind_term cs u q s (Product t f) = ap (λ g. Some (partial cs u q (Ended (BaseEnds (GroupBase (expression_of s (Product t g))))))) (factor_of-ending_of f)

plus-behind : (cs : List Outer) (e : Expression) → moves (behind cs e) Plus ≡ Some (partial cs (SumWith e) NoFactor WantsOperand)
plus-behind cs (Single t) = plus-behind_term cs NoTerm t
plus-behind cs (Negated t) = plus-behind_term cs Negative t
plus-behind cs (Sum e t) = plus-behind_term cs (SumWith e) t
plus-behind cs (Difference e t) = plus-behind_term cs (DifferenceWith e) t

minus-behind : (cs : List Outer) (e : Expression) → moves (behind cs e) Minus ≡ Some (partial cs (DifferenceWith e) NoFactor WantsOperand)
minus-behind cs (Single t) = minus-behind_term cs NoTerm t
minus-behind cs (Negated t) = minus-behind_term cs Negative t
minus-behind cs (Sum e t) = minus-behind_term cs (SumWith e) t
minus-behind cs (Difference e t) = minus-behind_term cs (DifferenceWith e) t

close-behind : (cs : List Outer) (s : SumSide) (p : ProductSide) (e : Expression) → moves (behind (outer s p ∷ cs) e) Close ≡ Some (partial cs s p (Ended (BaseEnds (GroupBase e))))
close-behind cs s p (Single t) = close-behind_term cs s p NoTerm t
close-behind cs s p (Negated t) = close-behind_term cs s p Negative t
close-behind cs s p (Sum e t) = close-behind_term cs s p (SumWith e) t
close-behind cs s p (Difference e t) = close-behind_term cs s p (DifferenceWith e) t

power-tail : (a : Atom) (digits : List ℕ) (cs : List Outer) (s : SumSide) (p : ProductSide) (ts : List Token) →
    run (behind_factor cs s p (Bare a)) (Caret ∷ Number digits ∷ ts) ≡ run (behind_factor cs s p (Power a digits)) ts
power-tail (Whole n) digits cs s p ts = refl
power-tail (Quotient n m) digits cs s p ts = refl
power-tail (Variable n) digits cs s p ts = refl
power-tail (Group e) digits cs s p ts = refl

run-cons : (z : Partial) (t : Token) (w : Partial) (ts : List Token) → moves z t ≡ Some w → run z (t ∷ ts) ≡ run w ts
run-cons z t w ts e = ap (where_some (λ w. run w ts)) e

mutual
  unfolding expression_tokens term_tokens factor_tokens atom_tokens

  pub run-expression : (e : Expression) (cs : List Outer) (ts : List Token) → run (partial cs NoTerm NoFactor WantsOperand) (expression_tokens e ++ ts) ≡ run (behind cs e) ts
  run-expression (Single t) cs ts = run-term t cs NoTerm ts
  run-expression (Negated t) cs ts = run-term t cs Negative ts
  run-expression (Sum e t) cs ts =
      ap (run (partial cs NoTerm NoFactor WantsOperand)) (append_assoc (expression_tokens e) (Plus ∷ term_tokens t) ts)
      ∙ run-expression e cs (Plus ∷ (term_tokens t ++ ts))
      ∙ run-cons _ Plus _ (term_tokens t ++ ts) (plus-behind cs e)
      ∙ run-term t cs (SumWith e) ts
  run-expression (Difference e t) cs ts =
      ap (run (partial cs NoTerm NoFactor WantsOperand)) (append_assoc (expression_tokens e) (Minus ∷ term_tokens t) ts)
      ∙ run-expression e cs (Minus ∷ (term_tokens t ++ ts))
      ∙ run-cons _ Minus _ (term_tokens t ++ ts) (minus-behind cs e)
      ∙ run-term t cs (DifferenceWith e) ts

  run-term : (t : Term) (cs : List Outer) (s : SumSide) (ts : List Token) → run (partial cs s NoFactor WantsOperand) (term_tokens t ++ ts) ≡ run (behind_term cs s t) ts
  run-term (Alone f) cs s ts = run-factor f cs s NoFactor ts
  run-term (Product t f) cs s ts =
      ap (run (partial cs s NoFactor WantsOperand)) (append_assoc (term_tokens t) (Star ∷ factor_tokens f) ts)
      ∙ run-term t cs s (Star ∷ (factor_tokens f ++ ts))
      ∙ run-cons _ Star _ (factor_tokens f ++ ts) (star-behind_term cs s t)
      ∙ run-factor f cs s (ProductWith t) ts

  run-factor : (f : Factor) (cs : List Outer) (s : SumSide) (p : ProductSide) (ts : List Token) → run (partial cs s p WantsOperand) (factor_tokens f ++ ts) ≡ run (behind_factor cs s p f) ts
  run-factor (Bare a) cs s p ts = run-atom a cs s p ts
  run-factor (Power a digits) cs s p ts =
      ap (run (partial cs s p WantsOperand)) (append_assoc (atom_tokens a) (Caret ∷ Number digits ∷ []) ts)
      ∙ run-atom a cs s p (Caret ∷ Number digits ∷ ts)
      ∙ power-tail a digits cs s p ts

  run-atom : (a : Atom) (cs : List Outer) (s : SumSide) (p : ProductSide) (ts : List Token) → run (partial cs s p WantsOperand) (atom_tokens a ++ ts) ≡ run (behind_factor cs s p (Bare a)) ts
  run-atom (Whole digits) cs s p ts = refl
  run-atom (Quotient digits others) cs s p ts = refl
  run-atom (Variable name) cs s p ts = refl
  run-atom (Group e) cs s p ts =
      ap (run (partial (outer s p ∷ cs) NoTerm NoFactor WantsOperand)) (append_assoc (expression_tokens e) (Close ∷ []) ts)
      ∙ run-expression e (outer s p ∷ cs) (Close ∷ ts)
      ∙ run-cons _ Close _ ts (close-behind cs s p e)

-- ---- the tokens of a tree, turned round

mutual
  unfolding expression_tokens term_tokens factor_tokens atom_tokens

  pub turned-expression : (e : Expression) (ks ts : List Token) → reverse_aux (expression_before e ks) ts ≡ reverse_aux ks (expression_tokens e ++ ts)
  turned-expression (Single t) ks ts = turned-term t ks ts
  turned-expression (Negated t) ks ts = turned-term t (Minus ∷ ks) ts
  turned-expression (Sum e t) ks ts =
      turned-term t (Plus ∷ expression_before e ks) ts
      ∙ turned-expression e ks (Plus ∷ (term_tokens t ++ ts))
      ∙ ap (reverse_aux ks) (sym (append_assoc (expression_tokens e) (Plus ∷ term_tokens t) ts))
  turned-expression (Difference e t) ks ts =
      turned-term t (Minus ∷ expression_before e ks) ts
      ∙ turned-expression e ks (Minus ∷ (term_tokens t ++ ts))
      ∙ ap (reverse_aux ks) (sym (append_assoc (expression_tokens e) (Minus ∷ term_tokens t) ts))

  turned-term : (t : Term) (ks ts : List Token) → reverse_aux (term_before t ks) ts ≡ reverse_aux ks (term_tokens t ++ ts)
  turned-term (Alone f) ks ts = turned-factor f ks ts
  turned-term (Product t f) ks ts =
      turned-factor f (Star ∷ term_before t ks) ts
      ∙ turned-term t ks (Star ∷ (factor_tokens f ++ ts))
      ∙ ap (reverse_aux ks) (sym (append_assoc (term_tokens t) (Star ∷ factor_tokens f) ts))

  turned-factor : (f : Factor) (ks ts : List Token) → reverse_aux (factor_before f ks) ts ≡ reverse_aux ks (factor_tokens f ++ ts)
  turned-factor (Bare a) ks ts = turned-atom a ks ts
  turned-factor (Power a digits) ks ts =
      turned-atom a ks (Caret ∷ Number digits ∷ ts) ∙ ap (reverse_aux ks) (sym (append_assoc (atom_tokens a) (Caret ∷ Number digits ∷ []) ts))

  turned-atom : (a : Atom) (ks ts : List Token) → reverse_aux (atom_before a ks) ts ≡ reverse_aux ks (atom_tokens a ++ ts)
  turned-atom (Whole digits) ks ts = refl
  turned-atom (Quotient digits others) ks ts = refl
  turned-atom (Variable name) ks ts = refl
  turned-atom (Group e) ks ts =
      turned-expression e (Open ∷ ks) (Close ∷ ts) ∙ ap (reverse_aux (Open ∷ ks)) (sym (append_assoc (expression_tokens e) (Close ∷ []) ts))
