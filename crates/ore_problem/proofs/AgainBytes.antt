-- The bytes of printed texts.
--     is_mark, is_plain       a space or a sign of an operation; a byte of a name, or such a byte
--     IsPlain, AllPlain       each byte of a text is plain; of each of some texts
--     IsBare                  each byte of a text is of a name
--     Lacks                   a byte stands nowhere in a text
--     all_append                     a fact of all of two lists
--     plain_lacks, bare_lacks        so it is where the byte isn't plain; isn't of a name
--     plain_bare              a text with bytes of names alone is plain
--     plain_append, plain_cons    plain texts in a row, and a plain byte before one
--     plain_ten, plain_thirteen, plain_hash, plain_comma, plain_space    which of these bytes are plain: the space
--                                                                        alone
--     bare_decimal, bare_name        a number and a name have bytes of names alone
--     plain_operator          an operator is plain
use Rattle.std.proofs.Common.{◌≡◌, ℕ, zero, suc, ◌/◌, ◌%◌, ◌<◌, Bool, true, false, not, ◌&&◌, ◌||◌, if◌then◌else◌, List, [], ◌∷◌, ◌++◌, refl, sym, ap, ◌∙◌, arith, ℤ, pos, negsuc, true≢false}
use Rattle.std.specs.Prelude.{nat_eq, nat_abs, decimal, codes}
use Rattle.std.specs.Fmt.{digits, digits_onto, digit_glyph}
use Rattle.std.specs.List.{list_all, join_with_byte, flat_map, AllByRecursion}
use Rattle.std.proofs.lemmas.List.Folds.{list_all-append}
use Rattle.std.proofs.lemmas.List.Sums.{list_all-from_AllPass}
use Rattle.std.proofs.lemmas.Bool.Decides.{nat_tests}
use Rattle.std.proofs.lemmas.Bool.{or_left}
use Rattle.ore_algebra.proofs.ListLaws.{list_all-weaker}
use Rattle.ore_rational.specs.Fraction.{Fraction}
use Rattle.ore_rational.specs.Field.{rationals}
use Rattle.ore_monomial.specs.declared.order.Order.{Order}
use Rattle.ore_monomial.specs.LetterRule.{Operator}
use Rattle.ore_ring.specs.Terms.{Summand, Terms, falling}
use Rattle.ore_expr.specs.Tokens.{IsName, is_name_byte}
use Rattle.ore_text.specs.Names.{AreNames}
use Rattle.ore_text.specs.CanonicalText.{power_text, factor_texts, magnitude_text, is_one, with_factors, term_text, sign_text, later_text, terms_text, operator_text}
use Rattle.ore_text.proofs.ByteTests.{letter_in_name}

abbrev pub is_mark : ℕ → Bool
is_mark b = nat_eq b 32 || (nat_eq b 42 || (nat_eq b 43 || (nat_eq b 45 || (nat_eq b 47 || nat_eq b 94))))

unfoldable pub is_plain : ℕ → Bool
is_plain b = is_name_byte b || is_mark b

abbrev pub IsPlain : List ℕ → Type 0
IsPlain text = list_all is_plain text ≡ true

abbrev pub AllPlain : List (List ℕ) → Type 0
AllPlain texts = AllByRecursion IsPlain texts

-- bytes of names alone
abbrev pub IsBare : List ℕ → Type 0
IsBare text = list_all is_name_byte text ≡ true

abbrev pub Lacks : ℕ → List ℕ → Type 0
Lacks byte text = list_all (λ b. not (nat_eq b byte)) text ≡ true

-- ---- tests of bytes

other_byte : (p : ℕ → Bool) (byte : ℕ) → p byte ≡ false → (b : ℕ) → p b ≡ true → not (nat_eq b byte) ≡ true
other_byte p byte n b h = by (nat_eq b byte) refl
  where
    by : (t : Bool) → nat_eq b byte ≡ t → not t ≡ true
    by false e = refl
    by true e = let same : b ≡ byte = grind (arith, nat_tests) in absurd (true≢false (sym h ∙ ap p same ∙ n))

pub plain_lacks : (byte : ℕ) → is_plain byte ≡ false → (text : List ℕ) → IsPlain text → Lacks byte text
plain_lacks byte n text h = list_all-weaker is_plain (λ b. not (nat_eq b byte)) (other_byte is_plain byte n) text h

pub bare_lacks : (byte : ℕ) → is_name_byte byte ≡ false → (text : List ℕ) → IsBare text → Lacks byte text
bare_lacks byte n text h = list_all-weaker is_name_byte (λ b. not (nat_eq b byte)) (other_byte is_name_byte byte n) text h

bare_byte : (b : ℕ) → is_name_byte b ≡ true → is_plain b ≡ true
unfolding is_plain
bare_byte b h = or_left (is_name_byte b) (is_mark b) h

pub plain_bare : (text : List ℕ) → IsBare text → IsPlain text
plain_bare text h = list_all-weaker is_name_byte is_plain bare_byte text h

pub plain_append : (a b : List ℕ) → IsPlain a → IsPlain b → IsPlain (a ++ b)
plain_append a b h k = list_all-append is_plain a b ∙ (λ i. h i && k i)

pub plain_cons : (x : ℕ) (a : List ℕ) → is_plain x ≡ true → IsPlain a → IsPlain (x ∷ a)
plain_cons x a h k = λ i. h i && k i

-- bytes that are given are plain
pub plain_ten : is_plain 10 ≡ false
unfolding is_plain
plain_ten = refl

pub plain_thirteen : is_plain 13 ≡ false
unfolding is_plain
plain_thirteen = refl

pub plain_hash : is_plain 35 ≡ false
unfolding is_plain
plain_hash = refl

pub plain_comma : is_plain 44 ≡ false
unfolding is_plain
plain_comma = refl

pub plain_space : is_plain 32 ≡ true
unfolding is_plain
plain_space = refl

-- ---- numbers

digit_is_bare : (d : ℕ) → is_name_byte (digit_glyph false (d % 10)) ≡ true
digit_is_bare d = let h : d % 10 < 10 = omega arith in grind (arith, nat_tests)

either_bare : (b : Bool) (xs ys : List ℕ) → IsBare xs → IsBare ys → IsBare (if b then xs else ys)
either_bare true xs ys h k = h
either_bare false xs ys h k = k

bare_digits_onto : (k n : ℕ) (acc : List ℕ) → IsBare acc → IsBare (digits_onto k 10 false n acc)
bare_digits_onto zero n acc h = h
bare_digits_onto (suc k) n acc h =
    let first = digit_glyph false (n % 10) ∷ acc in
    let more : IsBare first = λ i. digit_is_bare n i && h i in
    either_bare (nat_eq (n / 10) 0) first (digits_onto k 10 false (n / 10) first) more (bare_digits_onto k (n / 10) first more)

pub bare_decimal : (n : ℕ) → IsBare (decimal n)
unfolding digits
bare_decimal n = bare_digits_onto 64 n [] refl

plain_decimal : (n : ℕ) → IsPlain (decimal n)
plain_decimal n = plain_bare (decimal n) (bare_decimal n)

-- ---- names

pub bare_name : (name : List ℕ) → IsName name → IsBare name
bare_name [] h = absurd h
bare_name (b ∷ bs) h = λ i. letter_in_name b h.0 i && list_all-from_AllPass is_name_byte bs h.2 i

-- ---- operators

pub all_append : {X : Type 0} (P : X → Type 0) (a b : List X) → AllByRecursion P a → AllByRecursion P b → AllByRecursion P (a ++ b)
all_append P [] b h k = k
all_append P (x ∷ a) b h k = (h.0, all_append P a b h.1 k)

plain_power : (name : List ℕ) (e : ℕ) → IsPlain name → AllPlain (power_text name e)
unfolding is_plain
plain_power name zero h = tt
plain_power name (suc zero) h = (h, tt)
plain_power name (suc (suc e)) h = (plain_append (name ++ codes "^") (decimal (suc (suc e))) (plain_append name (codes "^") h refl) (plain_decimal (suc (suc e))), tt)

plain_factors : (names : List (List ℕ)) (es : List ℕ) → AllByRecursion IsName names → AllPlain (factor_texts names es)
plain_factors [] es h = tt
plain_factors (name ∷ names) [] h = tt
plain_factors (name ∷ names) (e ∷ es) h = all_append IsPlain (power_text name e) (factor_texts names es) (plain_power name e (plain_bare name (bare_name name h.0))) (plain_factors names es h.1)

star_is_plain : is_plain 42 ≡ true
unfolding is_plain
star_is_plain = refl

plain_product : (texts : List (List ℕ)) → AllPlain texts → IsPlain (join_with_byte 42 texts)
plain_product [] h = refl
plain_product (x ∷ []) h = h.0
plain_product (x ∷ y ∷ texts) h = plain_append x (42 ∷ join_with_byte 42 (y ∷ texts)) h.0 (plain_cons 42 (join_with_byte 42 (y ∷ texts)) star_is_plain (plain_product (y ∷ texts) h.1))

either_plain : (b : Bool) (xs ys : List ℕ) → IsPlain xs → IsPlain ys → IsPlain (if b then xs else ys)
either_plain true xs ys h k = h
either_plain false xs ys h k = k

plain_magnitude : (q : Fraction) → IsPlain (magnitude_text q)
unfolding is_plain
plain_magnitude q =
    either_plain (nat_eq q.den 1) (decimal (nat_abs q.num)) (decimal (nat_abs q.num) ++ codes "/" ++ decimal q.den) (plain_decimal (nat_abs q.num))
    (plain_append (decimal (nat_abs q.num) ++ codes "/") (decimal q.den) (plain_append (decimal (nat_abs q.num)) (codes "/") (plain_decimal (nat_abs q.num)) refl) (plain_decimal q.den))

either_all : (b : Bool) (xs ys : List (List ℕ)) → AllPlain xs → AllPlain ys → AllPlain (if b then xs else ys)
either_all true xs ys h k = h
either_all false xs ys h k = k

plain_with_factors : (q : Fraction) (factors : List (List ℕ)) → AllPlain factors → IsPlain (with_factors q factors)
plain_with_factors q [] h = plain_magnitude q
plain_with_factors q (x ∷ factors) h =
    plain_product (if is_one q then x ∷ factors else magnitude_text q ∷ x ∷ factors) (either_all (is_one q) (x ∷ factors) (magnitude_text q ∷ x ∷ factors) h (plain_magnitude q, h))

plain_term : (names : List (List ℕ)) (t : Summand) → AllByRecursion IsName names → IsPlain (term_text names t)
plain_term names t h = plain_with_factors t.1 (factor_texts names t.0.exponents) (plain_factors names t.0.exponents h)

plain_sign : (z : ℤ) (plus minus : List ℕ) → IsPlain plus → IsPlain minus → IsPlain (sign_text z plus minus)
plain_sign (pos n) plus minus h k = h
plain_sign (negsuc n) plus minus h k = k

plain_later : (names : List (List ℕ)) (ts : Terms) → AllByRecursion IsName names → IsPlain (flat_map (later_text names) ts)
unfolding is_plain
plain_later names [] h = refl
plain_later names (t ∷ ts) h =
    plain_append (later_text names t) (flat_map (later_text names) ts)
    (plain_append (sign_text t.1.num (codes " + ") (codes " - ")) (term_text names t) (plain_sign t.1.num (codes " + ") (codes " - ") refl refl) (plain_term names t h)) (plain_later names ts h)

plain_terms : (names : List (List ℕ)) (ts : Terms) → AllByRecursion IsName names → IsPlain (terms_text names ts)
unfolding is_plain
plain_terms names [] h = refl
plain_terms names (t ∷ ts) h =
    plain_append (sign_text t.1.num [] (codes "-") ++ term_text names t) (flat_map (later_text names) ts)
    (plain_append (sign_text t.1.num [] (codes "-")) (term_text names t) (plain_sign t.1.num [] (codes "-") refl refl) (plain_term names t h)) (plain_later names ts h)

pub plain_operator : (names : List (List ℕ)) (o : Order) (f : Operator rationals) → AreNames names → IsPlain (operator_text names o f)
unfolding operator_text
plain_operator names o f h = plain_terms names (falling o f) h.form
