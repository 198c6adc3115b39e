-- The expression that a canonical text spells, as a tree.
--     power_trees, factor_trees     the factor of one variable, and those of a monomial, exponents 0 left out
--     product_tree                  a term times some factors, from the left
--     magnitude_tree, with_trees    a fraction without its sign; the same times some factors
--     first_tree, next_tree         a first term with its sign; an expression and a term behind it, with its sign
--     term_tree, later_tree, canonical_tree     the tree of a term, of an expression and some terms behind it, of an operator's terms
--     star_tokens, later_tokens     the tokens of factors and of terms that follow others
--     product_tokens                the tokens of a term times some factors
--     sign_token, first_tokens      the token of a sign between terms; a first term's tokens with its sign
--     first_tree_tokens, later_tree_tokens    these are the tokens of a first term, and those of an expression with
--                                             terms behind it
--     small_numeral, numeral        a number below 2^127 has at most 64 digits; its text is a numeral of that value
--     head_small, small_sum         of exponents with a sum in range the first is in range, and the sum of the others;
--                                   a degree is the sum of the exponents
--     canonical_tokens              the tokens of the text are those of the tree
use Rattle.std.proofs.Common.{◌≡◌, ℕ, zero, suc, ◌<◌, ◌≤◌, ◌^◌, Bool, true, false, List, [], ◌∷◌, ◌++◌, ℤ, pos, negsuc, nat_abs, refl, sym, ap, ◌∙◌, subst, arith, append_assoc, append-nil}
use Rattle.std.specs.Prelude.{nat_eq, if◌then◌else◌, decimal, codes}
use Rattle.std.specs.List.{AllByRecursion, AllZip, join_with_byte, flat_map, sum}
use Rattle.std.specs.Str.Parse.{IsNumeral, digits_value}
use Rattle.std.proofs.lemmas.List.Sums.{sum_by-cons}
use Rattle.std.proofs.lemmas.Fmt.{decimal_is_IsNumeral_wide}
use Rattle.ore_rational.specs.Fraction.{Fraction}
use Rattle.ore_monomial.specs.Monomial.{degree}
use Rattle.ore_ring.specs.Terms.{Summand as OneTerm, Terms}
use Rattle.ore_expr.specs.Tokens.{IsName, Token, Number, Name, Plus, Minus, Star, Slash, Caret, token_at, more_bytes, lexemes_from, lexemes, tokens_of}
use Rattle.ore_expr.specs.Grammar.{Expression, Single, Negated, Sum, Difference, Term, Alone, Product, Factor, Bare, Power, Atom, Whole, Quotient, Variable, expression_tokens, term_tokens, factor_tokens, atom_tokens}
use Rattle.ore_text.specs.CanonicalText.{factor_texts, magnitude_text, is_one, with_factors, sign_text, term_text, later_text, terms_text}
use Rattle.ore_expr.specs.Laws.{IsStorableTerm}
use Rattle.ore_expr.proofs.CanonicalTokens.{Spells, EndsName, Piece, spells_none, spells_space, spells_token, piece_number, piece_name, piece_between}

-- ---- trees

abbrev pub power_trees : List ℕ → ℕ → List Factor
power_trees name zero = []
power_trees name (suc zero) = Bare (Variable name) ∷ []
power_trees name e = Power (Variable name) (decimal e) ∷ []

abbrev pub factor_trees : List (List ℕ) → List ℕ → List Factor
factor_trees (name ∷ names) (e ∷ es) = power_trees name e ++ factor_trees names es
factor_trees names es = []

abbrev pub product_tree : Term → List Factor → Term
product_tree t [] = t
product_tree t (f ∷ fs) = product_tree (Product t f) fs

abbrev pub magnitude_tree : Fraction → Atom
magnitude_tree q = if nat_eq q.den 1 then Whole (decimal (nat_abs q.num)) else Quotient (decimal (nat_abs q.num)) (decimal q.den)

abbrev pub with_trees : Fraction → List Factor → Term
with_trees q [] = Alone (Bare (magnitude_tree q))
with_trees q (f ∷ fs) = if is_one q then product_tree (Alone f) fs else product_tree (Alone (Bare (magnitude_tree q))) (f ∷ fs)

abbrev pub term_tree : List (List ℕ) → OneTerm → Term
term_tree names t = with_trees t.1 (factor_trees names t.0.exponents)

abbrev pub first_tree : ℤ → Term → Expression
first_tree (pos n) t = Single t
first_tree (negsuc n) t = Negated t

abbrev pub next_tree : ℤ → Expression → Term → Expression
next_tree (pos n) e t = Sum e t
next_tree (negsuc n) e t = Difference e t

abbrev pub later_tree : List (List ℕ) → Expression → Terms → Expression
later_tree names e [] = e
later_tree names e (t ∷ ts) = later_tree names (next_tree t.1.num e (term_tree names t)) ts

abbrev pub canonical_tree : List (List ℕ) → Terms → Expression
canonical_tree names [] = Single (Alone (Bare (Whole (codes "0"))))
canonical_tree names (t ∷ ts) = later_tree names (first_tree t.1.num (term_tree names t)) ts

-- ---- tokens

abbrev pub star_tokens : List Factor → List Token
star_tokens [] = []
star_tokens (f ∷ fs) = Star ∷ (factor_tokens f ++ star_tokens fs)

pub product_tokens : (t : Term) (fs : List Factor) → term_tokens (product_tree t fs) ≡ term_tokens t ++ star_tokens fs
unfolding term_tokens
product_tokens t [] = sym (append-nil (term_tokens t))
product_tokens t (f ∷ fs) = product_tokens (Product t f) fs ∙ append_assoc (term_tokens t) (Star ∷ factor_tokens f) (star_tokens fs)

abbrev pub sign_token : ℤ → Token
sign_token (pos n) = Plus
sign_token (negsuc n) = Minus

abbrev pub first_tokens : ℤ → List Token → List Token
first_tokens (pos n) ts = ts
first_tokens (negsuc n) ts = Minus ∷ ts

abbrev pub later_tokens : List (List ℕ) → Terms → List Token
later_tokens names [] = []
later_tokens names (t ∷ ts) = sign_token t.1.num ∷ (term_tokens (term_tree names t) ++ later_tokens names ts)

next_tokens : (z : ℤ) (e : Expression) (t : Term) → expression_tokens (next_tree z e t) ≡ expression_tokens e ++ sign_token z ∷ term_tokens t
unfolding expression_tokens
next_tokens (pos n) e t = refl
next_tokens (negsuc n) e t = refl

pub first_tree_tokens : (z : ℤ) (t : Term) → expression_tokens (first_tree z t) ≡ first_tokens z (term_tokens t)
unfolding expression_tokens
first_tree_tokens (pos n) t = refl
first_tree_tokens (negsuc n) t = refl

pub later_tree_tokens : (names : List (List ℕ)) (e : Expression) (ts : Terms) → expression_tokens (later_tree names e ts) ≡ expression_tokens e ++ later_tokens names ts
later_tree_tokens names e [] = sym (append-nil (expression_tokens e))
later_tree_tokens names e (t ∷ ts) =
    later_tree_tokens names (next_tree t.1.num e (term_tree names t)) ts
    ∙ ap (λ us. us ++ later_tokens names ts) (next_tokens t.1.num e (term_tree names t))
    ∙ append_assoc (expression_tokens e) (sign_token t.1.num ∷ term_tokens (term_tree names t)) (later_tokens names ts)

-- ---- the pieces of the text

pub small_numeral : (n : ℕ) → n < 2 ^ 127 → n < 10 ^ 64
small_numeral n h = omega arith

pub numeral : (n : ℕ) → n < 2 ^ 127 → IsNumeral 10 (decimal n) × (digits_value 10 (decimal n) ≡ n)
numeral n h = decimal_is_IsNumeral_wide n (small_numeral n h)

abbrev FactorPiece : List ℕ → Factor → Type 0
FactorPiece text f = Piece text (factor_tokens f)

name_piece : (name : List ℕ) → IsName name → FactorPiece name (Bare (Variable name))
unfolding factor_tokens atom_tokens
name_piece name h = piece_name name h

power_piece : (name : List ℕ) (e : ℕ) → IsName name → e ≤ 32767 → FactorPiece (name ++ codes "^" ++ decimal e) (Power (Variable name) (decimal e))
unfolding factor_tokens atom_tokens
power_piece name e h k =
    subst (λ text. Piece text (Name name ∷ Caret ∷ Number (decimal e) ∷ [])) (sym (append_assoc name (codes "^") (decimal e)))
    (piece_between 94 Caret refl refl (λ bs. refl) refl name (decimal e) (Name name ∷ []) (Number (decimal e) ∷ []) (piece_name name h) (piece_number (decimal e) (numeral e (omega arith)).0))

pub head_small : (e : ℕ) (es : List ℕ) → sum (e ∷ es) ≤ 32767 → (e ≤ 32767) × (sum es ≤ 32767)
head_small e es h = let s = sum_by-cons (λ x. x) e es in (omega arith, omega arith)

factor_pieces : (names : List (List ℕ)) (es : List ℕ) → AllByRecursion IsName names → sum es ≤ 32767 → AllZip FactorPiece (factor_texts names es) (factor_trees names es)
factor_pieces [] es h k = tt
factor_pieces (name ∷ names) [] h k = tt
factor_pieces (name ∷ names) (zero ∷ es) h k = factor_pieces names es h.1 (head_small 0 es k).1
factor_pieces (name ∷ names) (suc zero ∷ es) h k = (name_piece name h.0, factor_pieces names es h.1 (head_small 1 es k).1)
factor_pieces (name ∷ names) (suc (suc e) ∷ es) h k = (power_piece name (suc (suc e)) h.0 (head_small (suc (suc e)) es k).0, factor_pieces names es h.1 (head_small (suc (suc e)) es k).1)

joined_piece : (text : List ℕ) (texts : List (List ℕ)) (ts : List Token) (fs : List Factor) → Piece text ts → AllZip FactorPiece texts fs → Piece (join_with_byte 42 (text ∷ texts)) (ts ++ star_tokens fs)
joined_piece text [] ts [] p h = subst (Piece text) (sym (append-nil ts)) p
joined_piece text [] ts (f ∷ fs) p h = absurd h
joined_piece text (next ∷ texts) ts [] p h = absurd h
joined_piece text (next ∷ texts) ts (f ∷ fs) p h = piece_between 42 Star refl refl (λ bs. refl) refl text (join_with_byte 42 (next ∷ texts)) ts (factor_tokens f ++ star_tokens fs) p (joined_piece next texts (factor_tokens f) fs h.0 h.1)

magnitude_piece : (q : Fraction) → nat_abs q.num < 2 ^ 127 → q.den < 2 ^ 127 → Piece (magnitude_text q) (atom_tokens (magnitude_tree q))
unfolding atom_tokens
magnitude_piece q h k = by (nat_eq q.den 1)
  where
    by : (b : Bool) → Piece (if b then decimal (nat_abs q.num) else decimal (nat_abs q.num) ++ codes "/" ++ decimal q.den) (atom_tokens (if b then Whole (decimal (nat_abs q.num)) else Quotient (decimal (nat_abs q.num)) (decimal q.den)))
    by true = piece_number (decimal (nat_abs q.num)) (numeral (nat_abs q.num) h).0
    by false =
        let n = decimal (nat_abs q.num) in
        let d = decimal q.den in
        subst (λ text. Piece text (Number n ∷ Slash ∷ Number d ∷ [])) (sym (append_assoc n (codes "/") d))
        (piece_between 47 Slash refl refl (λ bs. refl) refl n d (Number n ∷ []) (Number d ∷ []) (piece_number n (numeral (nat_abs q.num) h).0) (piece_number d (numeral q.den k).0))

with_piece : (q : Fraction) (texts : List (List ℕ)) (fs : List Factor) → Piece (magnitude_text q) (atom_tokens (magnitude_tree q)) → AllZip FactorPiece texts fs → Piece (with_factors q texts) (term_tokens (with_trees q fs))
unfolding term_tokens factor_tokens
with_piece q [] [] p h = p
with_piece q [] (f ∷ fs) p h = absurd h
with_piece q (text ∷ texts) [] p h = absurd h
with_piece q (text ∷ texts) (f ∷ fs) p h = by (is_one q)
  where
    by : (b : Bool) → Piece (join_with_byte 42 (if b then text ∷ texts else magnitude_text q ∷ text ∷ texts)) (term_tokens (if b then product_tree (Alone f) fs else product_tree (Alone (Bare (magnitude_tree q))) (f ∷ fs)))
    by true = subst (Piece (join_with_byte 42 (text ∷ texts))) (sym (product_tokens (Alone f) fs)) (joined_piece text texts (factor_tokens f) fs h.0 h.1)
    by false = subst (Piece (join_with_byte 42 (magnitude_text q ∷ text ∷ texts))) (sym (product_tokens (Alone (Bare (magnitude_tree q))) (f ∷ fs))) (joined_piece (magnitude_text q) (text ∷ texts) (atom_tokens (magnitude_tree q)) (f ∷ fs) p h)

pub small_sum : (t : OneTerm) → degree t.0 ≤ 32767 → sum t.0.exponents ≤ 32767
unfolding degree
small_sum t h = h

-- ---- the whole text

module _ (names : List (List ℕ)) (form : AllByRecursion IsName names) where
  term_piece : (t : OneTerm) → IsStorableTerm t → Piece (term_text names t) (term_tokens (term_tree names t))
  term_piece t h = with_piece t.1 (factor_texts names t.0.exponents) (factor_trees names t.0.exponents) (magnitude_piece t.1 h.numerator h.denominator) (factor_pieces names t.0.exponents form (small_sum t h.degree))

  later_stops : (ts : Terms) → EndsName (flat_map (later_text names) ts)
  later_stops [] = tt
  later_stops (t ∷ ts) = by t.1.num
    where
      by : (z : ℤ) → EndsName ((sign_text z (codes " + ") (codes " - ") ++ term_text names t) ++ flat_map (later_text names) ts)
      by (pos n) = refl
      by (negsuc n) = refl

  spaced : (b : ℕ) (s : Token) → nat_eq b 32 ≡ false → ((bs : List ℕ) → token_at b bs ≡ s) → more_bytes s ≡ 0 → (rest : List ℕ) (us : List Token) → Spells rest us → Spells (32 ∷ b ∷ 32 ∷ rest) (s ∷ us)
  spaced b s e f g rest us sp = spells_space (b ∷ 32 ∷ rest) (s ∷ us) (spells_token b [] (32 ∷ rest) s us e (f (32 ∷ rest)) g (spells_space rest us sp))

  later_spells : (ts : Terms) → AllByRecursion IsStorableTerm ts → Spells (flat_map (later_text names) ts) (later_tokens names ts)
  later_spells [] h = spells_none
  later_spells (t ∷ ts) h = by t.1.num (term_piece t h.0 _ _ (later_stops ts) (later_spells ts h.1))
    where
      by : (z : ℤ) → Spells (term_text names t ++ flat_map (later_text names) ts) (term_tokens (term_tree names t) ++ later_tokens names ts)
          → Spells ((sign_text z (codes " + ") (codes " - ") ++ term_text names t) ++ flat_map (later_text names) ts) (sign_token z ∷ (term_tokens (term_tree names t) ++ later_tokens names ts))
      by (pos n) s = spaced 43 Plus refl (λ bs. refl) refl _ _ s
      by (negsuc n) s = spaced 45 Minus refl (λ bs. refl) refl _ _ s

  first_spells : (z : ℤ) (text rest : List ℕ) (us : List Token) → Spells (text ++ rest) us → Spells ((sign_text z [] (codes "-") ++ text) ++ rest) (first_tokens z us)
  first_spells (pos n) text rest us s = s
  first_spells (negsuc n) text rest us s = spells_token 45 [] (text ++ rest) Minus us refl refl refl s

  first_append : (z : ℤ) (us vs : List Token) → first_tokens z us ++ vs ≡ first_tokens z (us ++ vs)
  first_append (pos n) us vs = refl
  first_append (negsuc n) us vs = refl

  canonical_spells : (ts : Terms) → AllByRecursion IsStorableTerm ts → Spells (terms_text names ts) (expression_tokens (canonical_tree names ts))
  unfolding lexemes_from expression_tokens term_tokens factor_tokens atom_tokens
  canonical_spells [] h k = refl
  canonical_spells (t ∷ ts) h k =
      let tree = term_tree names t in
      first_spells t.1.num (term_text names t) (flat_map (later_text names) ts) (term_tokens tree ++ later_tokens names ts) (term_piece t h.0 _ _ (later_stops ts) (later_spells ts h.1)) k
      ∙ sym (later_tree_tokens names (first_tree t.1.num tree) ts ∙ ap (λ us. us ++ later_tokens names ts) (first_tree_tokens t.1.num tree) ∙ first_append t.1.num (term_tokens tree) (later_tokens names ts))

  pub canonical_tokens : (ts : Terms) → AllByRecursion IsStorableTerm ts → tokens_of (lexemes (terms_text names ts)) ≡ expression_tokens (canonical_tree names ts)
  canonical_tokens ts h = canonical_spells ts h 0
