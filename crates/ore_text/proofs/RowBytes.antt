-- A canonical text has no comma and no line end.
--     LacksStops-append            two texts without one
--     LacksStops-decimal           a number
--     LacksStops-name              a name
--     LacksStops-operator          an operator
use Rattle.std.proofs.Common.{◌≡◌, ℕ, zero, suc, ◌/◌, ◌%◌, ◌<◌, Bool, true, false, not, ◌&&◌, ◌||◌, if◌then◌else◌, List, [], ◌∷◌, ◌++◌, true≢false, refl, sym, ap, ◌∙◌, arith, ℤ, pos, negsuc}
use Rattle.std.specs.Prelude.{nat_eq, nat_abs, decimal, codes}
use Rattle.std.specs.Char.{is_ascii_alphabetic}
use Rattle.std.specs.Fmt.{digits, digits_onto, digit_glyph}
use Rattle.std.specs.List.{join_with_byte, flat_map, AllByRecursion}
use Rattle.std.proofs.lemmas.List.Folds.{list_all-append}
use Rattle.std.proofs.lemmas.List.Sums.{list_all-from_AllPass}
use Rattle.std.proofs.lemmas.Bool.{eqb-true}
use Rattle.std.proofs.lemmas.Bool.Decides.{nat_tests}
use Rattle.ore_algebra.proofs.ListLaws.{list_all-weaker}
use Rattle.ore_rational.specs.Fraction.{Fraction}
use Rattle.ore_rational.specs.Field.{rationals}
use Rattle.ore_monomial.specs.declared.order.Order.{Order}
use Rattle.ore_monomial.specs.LetterRule.{Operator}
use Rattle.ore_ring.specs.Terms.{Summand, Terms, falling}
use Rattle.ore_text.specs.Names.{IsName, is_name_byte}
use Rattle.ore_text.specs.Names.{AreNames}
use Rattle.ore_text.specs.CanonicalText.{power_text, factor_texts, magnitude_text, is_one, with_factors, term_text, sign_text, later_text, terms_text, operator_text}
use Rattle.ore_text.specs.RowParts.{is_stop, LacksStops}

abbrev no_stop : ℕ → Bool
no_stop b = not (is_stop b)

pub LacksStops-append : (a b : List ℕ) → LacksStops a → LacksStops b → LacksStops (a ++ b)
LacksStops-append a b h k = list_all-append no_stop a b ∙ (λ i. h i && k i)

LacksStops-cons : (x : ℕ) (a : List ℕ) → no_stop x ≡ true → LacksStops a → LacksStops (x ∷ a)
LacksStops-cons x a h k = λ i. h i && k i

-- ---- numbers

digit_is_no_stop : (d : ℕ) → no_stop (digit_glyph false (d % 10)) ≡ true
digit_is_no_stop d = let h : d % 10 < 10 = omega arith in grind (arith, nat_tests)

either_lacks : (b : Bool) (xs ys : List ℕ) → LacksStops xs → LacksStops ys → LacksStops (if b then xs else ys)
either_lacks true xs ys h k = h
either_lacks false xs ys h k = k

LacksStops-digits_onto : (k n : ℕ) (acc : List ℕ) → LacksStops acc → LacksStops (digits_onto k 10 false n acc)
LacksStops-digits_onto zero n acc h = h
LacksStops-digits_onto (suc k) n acc h =
    let more = LacksStops-cons (digit_glyph false (n % 10)) acc (digit_is_no_stop n) h in
    either_lacks (nat_eq (n / 10) 0) (digit_glyph false (n % 10) ∷ acc) (digits_onto k 10 false (n / 10) (digit_glyph false (n % 10) ∷ acc)) more (LacksStops-digits_onto k (n / 10) (digit_glyph false (n % 10) ∷ acc) more)

pub LacksStops-decimal : (n : ℕ) → LacksStops (decimal n)
unfolding digits
LacksStops-decimal n = LacksStops-digits_onto 64 n [] refl

-- ---- names

-- a test that neither a comma nor a line end passes
passes_no_stop : (p : ℕ → Bool) → p 44 ≡ false → p 10 ≡ false → (b : ℕ) → p b ≡ true → no_stop b ≡ true
passes_no_stop p comma end b h = by (nat_eq b 44) (nat_eq b 10) refl refl
  where
    by : (x y : Bool) → nat_eq b 44 ≡ x → nat_eq b 10 ≡ y → no_stop b ≡ true
    by true y e f = absurd (true≢false (sym h ∙ ap p (eqb-true b 44 e) ∙ comma))
    by false true e f = absurd (true≢false (sym h ∙ ap p (eqb-true b 10 f) ∙ end))
    by false false e f = λ i. not (e i || f i)

pub LacksStops-name : (name : List ℕ) → IsName name → LacksStops name
LacksStops-name [] is = absurd is
LacksStops-name (b ∷ bs) is =
    LacksStops-cons b bs (passes_no_stop is_ascii_alphabetic refl refl b is.0) (list_all-weaker is_name_byte no_stop (passes_no_stop is_name_byte refl refl) bs (list_all-from_AllPass is_name_byte bs is.2))

-- ---- terms

abbrev AllLack : List (List ℕ) → Type 0
AllLack texts = AllByRecursion LacksStops texts

AllLack-append : (a b : List (List ℕ)) → AllLack a → AllLack b → AllLack (a ++ b)
AllLack-append [] b h k = k
AllLack-append (x ∷ a) b h k = (h.0, AllLack-append a b h.1 k)

AllLack-power : (name : List ℕ) (e : ℕ) → LacksStops name → AllLack (power_text name e)
AllLack-power name zero h = tt
AllLack-power name (suc zero) h = (h, tt)
AllLack-power name (suc (suc e)) h = (LacksStops-append (name ++ codes "^") (decimal (suc (suc e))) (LacksStops-append name (codes "^") h refl) (LacksStops-decimal (suc (suc e))), tt)

AllLack-factors : (names : List (List ℕ)) (es : List ℕ) → AllByRecursion IsName names → AllLack (factor_texts names es)
AllLack-factors [] es h = tt
AllLack-factors (name ∷ names) [] h = tt
AllLack-factors (name ∷ names) (e ∷ es) h = AllLack-append (power_text name e) (factor_texts names es) (AllLack-power name e (LacksStops-name name h.0)) (AllLack-factors names es h.1)

LacksStops-join : (texts : List (List ℕ)) → AllLack texts → LacksStops (join_with_byte 42 texts)
LacksStops-join [] h = refl
LacksStops-join (x ∷ []) h = h.0
LacksStops-join (x ∷ y ∷ texts) h = LacksStops-append x (42 ∷ join_with_byte 42 (y ∷ texts)) h.0 (LacksStops-cons 42 (join_with_byte 42 (y ∷ texts)) refl (LacksStops-join (y ∷ texts) h.1))

LacksStops-magnitude : (q : Fraction) → LacksStops (magnitude_text q)
LacksStops-magnitude q =
    either_lacks (nat_eq q.den 1) (decimal (nat_abs q.num)) (decimal (nat_abs q.num) ++ codes "/" ++ decimal q.den) (LacksStops-decimal (nat_abs q.num))
    (LacksStops-append (decimal (nat_abs q.num) ++ codes "/") (decimal q.den) (LacksStops-append (decimal (nat_abs q.num)) (codes "/") (LacksStops-decimal (nat_abs q.num)) refl) (LacksStops-decimal q.den))

either_all : (b : Bool) (xs ys : List (List ℕ)) → AllLack xs → AllLack ys → AllLack (if b then xs else ys)
either_all true xs ys h k = h
either_all false xs ys h k = k

LacksStops-with_factors : (q : Fraction) (factors : List (List ℕ)) → AllLack factors → LacksStops (with_factors q factors)
LacksStops-with_factors q [] h = LacksStops-magnitude q
LacksStops-with_factors q (x ∷ factors) h =
    LacksStops-join (if is_one q then x ∷ factors else magnitude_text q ∷ x ∷ factors) (either_all (is_one q) (x ∷ factors) (magnitude_text q ∷ x ∷ factors) h (LacksStops-magnitude q, h))

LacksStops-term : (names : List (List ℕ)) (t : Summand) → AllByRecursion IsName names → LacksStops (term_text names t)
LacksStops-term names t h = LacksStops-with_factors t.1 (factor_texts names t.0.exponents) (AllLack-factors names t.0.exponents h)

LacksStops-sign : (z : ℤ) (plus minus : List ℕ) → LacksStops plus → LacksStops minus → LacksStops (sign_text z plus minus)
LacksStops-sign (pos n) plus minus h k = h
LacksStops-sign (negsuc n) plus minus h k = k

LacksStops-later : (names : List (List ℕ)) (ts : Terms) → AllByRecursion IsName names → LacksStops (flat_map (later_text names) ts)
LacksStops-later names [] h = refl
LacksStops-later names (t ∷ ts) h =
    LacksStops-append (later_text names t) (flat_map (later_text names) ts)
    (LacksStops-append (sign_text t.1.num (codes " + ") (codes " - ")) (term_text names t) (LacksStops-sign t.1.num (codes " + ") (codes " - ") refl refl) (LacksStops-term names t h)) (LacksStops-later names ts h)

LacksStops-terms : (names : List (List ℕ)) (ts : Terms) → AllByRecursion IsName names → LacksStops (terms_text names ts)
LacksStops-terms names [] h = refl
LacksStops-terms names (t ∷ ts) h =
    LacksStops-append (sign_text t.1.num [] (codes "-") ++ term_text names t) (flat_map (later_text names) ts)
    (LacksStops-append (sign_text t.1.num [] (codes "-")) (term_text names t) (LacksStops-sign t.1.num [] (codes "-") refl refl) (LacksStops-term names t h)) (LacksStops-later names ts h)

pub LacksStops-operator : (names : List (List ℕ)) (o : Order) (f : Operator rationals) → AreNames names → LacksStops (operator_text names o f)
unfolding operator_text
LacksStops-operator names o f h = LacksStops-terms names (falling o f) h.form
