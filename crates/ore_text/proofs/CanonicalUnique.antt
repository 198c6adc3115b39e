-- Two operators with one canonical text are the same: two texts are compared part by part, from the front on.
--     same_front            two words of name bytes, where each ends, are the same, and so is what follows
--     same_number           two numbers, where each ends
--     same_exponent         two exponents above 0, where a factor may end
--     same_denominator      two denominators, where a factor may end
--     not_both              no text begins both with a name and with another word
--     AreSmall              exponents that are at most 32,767
--     AgreeUpTo             the same exponents at so many places, from the first on
--     same_factors          the factors of two monomials with these names have the same exponents
--     same_fraction         a fraction is known by its sign, its numerator without it, and its denominator
--     same_monomial         a monomial is known by the exponents of the variables of its signature
--     number_or_letter      no text begins both with a number and with a letter
--     IsSameCoefficient     two terms with the same magnitude, and with the same text of the factors
--     same_coefficient      two terms with one text are so
--     same_first_sign       the signs of two terms that stand first
--     same_later_sign       the signs of two terms that stand behind others
--     same_term             two terms with one sign and one text, where each ends
--     same_begun            two first terms with their signs
--     same_others           all terms behind the first
--     same_terms            all terms
--     canonical_is_unique   operators with one canonical text are the same
use Rattle.std.proofs.Common.{◌≡◌, ◌≢◌, ◌⊎◌, inl, inr, ℕ, zero, suc, ◌+◌, ◌<◌, ◌≤◌, ◌^◌, Bool, true, false, cond, nat_eq, List, [], ◌∷◌, ◌++◌, length, take, drop, get_or, ℤ, pos, negsuc, nat_abs, refl, sym, ap, ◌∙◌, subst, append_assoc, arith, true≢false, ext_get_or}
use Rattle.std.specs.Prelude.{codes, decimal}
use Rattle.std.specs.Char.{is_ascii_digit, is_ascii_alphabetic}
use Rattle.std.specs.List.{AllByRecursion, flat_map, sum}
use Rattle.std.specs.Str.Parse.{digits_value}
use Rattle.std.proofs.lemmas.Bool.{cases_lt}
use Rattle.std.proofs.lemmas.Bool.Decides.{nat_tests}
use Rattle.std.proofs.lemmas.List.Sums.{sum_by-cons}
use Rattle.std.proofs.lemmas.Fmt.{decimal_is_IsNumeral_wide}
use Rattle.ore_algebra.specs.Free.{collect}
use Rattle.ore_algebra.proofs.ListLaws.{same_cons}
use Rattle.ore_rational.specs.Fraction.{Fraction, reduce, whole}
use Rattle.ore_rational.specs.Reduced.{reduce-self}
use Rattle.ore_rational.specs.Field.{rationals}
use Rattle.ore_monomial.specs.Monomial.{Monomial, monomial_of, degree, plain_cmp}
use Rattle.ore_monomial.specs.MonomialCode.{seen_again}
use Rattle.ore_monomial.specs.Signature.{Signature, MonomialOf}
use Rattle.ore_monomial.specs.declared.order.Order.{Order}
use Rattle.ore_monomial.specs.LetterRule.{Operator}
use Rattle.ore_monomial.specs.Numbers.{AreNonZero}
use Rattle.ore_ring.specs.Terms.{Summand, Terms, falling}
use Rattle.ore_ring.proofs.AllTerms.{falls-falling}
use Rattle.ore_ring.proofs.TermLaws.{collect-falling}
use Rattle.ore_text.specs.CanonicalParts.{starred, exponent_text, denominator_text, is_negative, IsWordEnd, IsFactorEnd, IsTermEnd, IsPrintableTerm}
use Rattle.ore_text.specs.CanonicalText.{factor_texts, is_one, sign_text, term_text, later_text, terms_text, operator_text}
use Rattle.ore_text.specs.Laws.{CanonicalIsUnique}
use Rattle.ore_text.specs.Printable.{IsStorableTerm}
use Rattle.ore_text.specs.Names.{IsName, IsDistinct, AreNames, is_name_byte}
use Rattle.ore_text.proofs.CanonicalReading.{AreNameBytes, front_length, front_length-append, decimal_in_name, decimal_first, small_decimal, take_front, drop_front, FactorEnd-WordEnd, TermEnd-FactorEnd}
use Rattle.ore_text.proofs.Coefficients.{BeginsWithLetter, factors_of, term_front, denominator_end, one_parts}
use Rattle.ore_text.proofs.Powers.{IsOther, IsFront, name_bytes, exponent_end, power_front, star_at}
use Rattle.ore_text.proofs.Printing.{exponent_is}
use Rattle.ore_text.proofs.PrintableTerms.{printable_falling}
use Rattle.ore_text.proofs.Walking.{term_first, later_end, later_filled, zero_term, zero_text, zero_good}
use Rattle.ore_text.proofs.ByteTests.{letter_no_digit}

-- ---- words and numbers

same_front : (w v a b : List ℕ) → AreNameBytes w → AreNameBytes v → IsWordEnd a → IsWordEnd b → w ++ a ≡ v ++ b → (w ≡ v) × (a ≡ b)
same_front w v a b hw hv ha hb e =
    let l : length w ≡ length v = sym (front_length-append w a hw ha) ∙ ap front_length e ∙ front_length-append v b hv hb in
    (sym (take_front w a (w ++ a) (length v) l refl) ∙ ap (take (length v)) e ∙ take_front v b (v ++ b) (length v) refl refl, sym (drop_front w a (w ++ a) (length v) l refl) ∙ ap (drop (length v)) e ∙ drop_front v b (v ++ b) (length v) refl refl)

same_decimal : (m n : ℕ) → m < 2 ^ 127 → n < 2 ^ 127 → decimal m ≡ decimal n → m ≡ n
same_decimal m n h k e = sym (decimal_is_IsNumeral_wide m (small_decimal m h)).1 ∙ ap (digits_value 10) e ∙ (decimal_is_IsNumeral_wide n (small_decimal n k)).1

same_number : (m n : ℕ) (a b : List ℕ) → m < 2 ^ 127 → n < 2 ^ 127 → IsWordEnd a → IsWordEnd b → decimal m ++ a ≡ decimal n ++ b → (m ≡ n) × (a ≡ b)
same_number m n a b h k ha hb e =
    let w = same_front (decimal m) (decimal n) a b (decimal_in_name m h) (decimal_in_name n k) ha hb e in
    (same_decimal m n h k w.0, w.1)

-- a factor doesn't end where the byte x stands
no_factor_end : (x : ℕ) (a b : List ℕ) → x ≢ 42 → x ≢ 32 → IsFactorEnd a → a ≡ x ∷ b → ⊥
no_factor_end x a b n m h e = by (subst IsFactorEnd e h)
  where
    by : (x ≡ 42) ⊎ (x ≡ 32) → ⊥
    by (inl q) = n q
    by (inr q) = m q

caret_ends_none : (a b : List ℕ) → IsFactorEnd a → a ≡ 94 ∷ b → ⊥
caret_ends_none a b h e = no_factor_end 94 a b (λ q. omega arith) (λ q. omega arith) h e

slash_ends_none : (a b : List ℕ) → IsFactorEnd a → a ≡ 47 ∷ b → ⊥
slash_ends_none a b h e = no_factor_end 47 a b (λ q. omega arith) (λ q. omega arith) h e

same_exponent : (e f : ℕ) (a b : List ℕ) → e ≤ 32767 → f ≤ 32767 → 0 < e → 0 < f → IsFactorEnd a → IsFactorEnd b → exponent_text e ++ a ≡ exponent_text f ++ b → (e ≡ f) × (a ≡ b)
same_exponent zero f a b he hf pe pf ha hb q = absurd (omega arith)
same_exponent (suc e) zero a b he hf pe pf ha hb q = absurd (omega arith)
same_exponent (suc zero) (suc zero) a b he hf pe pf ha hb q = (refl, q)
same_exponent (suc zero) (suc (suc f)) a b he hf pe pf ha hb q = absurd (caret_ends_none a (decimal (suc (suc f)) ++ b) ha q)
same_exponent (suc (suc e)) (suc zero) a b he hf pe pf ha hb q = absurd (caret_ends_none b (decimal (suc (suc e)) ++ a) hb (sym q))
same_exponent (suc (suc e)) (suc (suc f)) a b he hf pe pf ha hb q =
    same_number (suc (suc e)) (suc (suc f)) a b (omega arith) (omega arith) (FactorEnd-WordEnd a ha) (FactorEnd-WordEnd b hb) (same_cons 94 94 (decimal (suc (suc e)) ++ a) (decimal (suc (suc f)) ++ b) q).1

same_denominator : (d e : ℕ) (a b : List ℕ) → d < 2 ^ 127 → e < 2 ^ 127 → IsFactorEnd a → IsFactorEnd b → denominator_text d ++ a ≡ denominator_text e ++ b → (d ≡ e) × (a ≡ b)
same_denominator d e a b hd he ha hb q = by (nat_eq d 1) (nat_eq e 1) refl refl q
  where
    one : (n : ℕ) → nat_eq n 1 ≡ true → n ≡ 1
    one n h = grind (arith, nat_tests)

    by : (x y : Bool) → nat_eq d 1 ≡ x → nat_eq e 1 ≡ y → cond x [] (47 ∷ decimal d) ++ a ≡ cond y [] (47 ∷ decimal e) ++ b → (d ≡ e) × (a ≡ b)
    by true true h k q = (one d h ∙ sym (one e k), q)
    by true false h k q = absurd (slash_ends_none a (decimal e ++ b) ha q)
    by false true h k q = absurd (slash_ends_none b (decimal d ++ a) hb (sym q))
    by false false h k q = same_number d e a b hd he (FactorEnd-WordEnd a ha) (FactorEnd-WordEnd b hb) (same_cons 47 47 (decimal d ++ a) (decimal e ++ b) q).1

-- ---- factors

-- a text in front of which another word stands doesn't begin with the name
not_both : (name front more : List ℕ) → IsName name → IsWordEnd more → IsOther name front → front ≡ name ++ more → ⊥
not_both name front more h end o e = o.other (same_front o.word name o.more more o.bytes (name_bytes name h) o.end end (sym o.front_is ∙ e)).0

none_written : (name : List ℕ) (names : List (List ℕ)) (es tail front : List ℕ) → IsFront name zero names es tail front → IsOther name front
none_written name names es tail front (inl z) = z.1
none_written name names es tail front (inr p) = absurd (let h = p.0 in omega arith)

one_written : (k : ℕ) (name : List ℕ) (names : List (List ℕ)) (es tail front : List ℕ) → IsFront name (suc k) names es tail front → front ≡ name ++ (exponent_text (suc k) ++ (starred false (factor_texts names es) ++ tail))
one_written k name names es tail front (inl z) = absurd (let h = z.0 in omega arith)
one_written k name names es tail front (inr p) = p.1

abbrev AreSmall : List ℕ → Type 0
AreSmall es = AllByRecursion (λ e. e ≤ 32767) es

abbrev AgreeUpTo : ℕ → List ℕ → List ℕ → Type 0
AgreeUpTo n es fs = (j : ℕ) → j < n → get_or es j 0 ≡ get_or fs j 0

agree_more : (n e f : ℕ) (es fs : List ℕ) → e ≡ f → AgreeUpTo n es fs → AgreeUpTo (suc n) (e ∷ es) (f ∷ fs)
agree_more n e f es fs q h zero l = q
agree_more n e f es fs q h (suc j) l = h j (omega arith)

same_factors : (names : List (List ℕ)) (bare other : Bool) (es fs a b : List ℕ) → AllByRecursion IsName names → IsDistinct names → AreSmall es → AreSmall fs → length es ≡ length fs → IsTermEnd a → IsTermEnd b
    → starred bare (factor_texts names es) ++ a ≡ starred other (factor_texts names fs) ++ b → AgreeUpTo (length names) es fs × (a ≡ b)
same_factors [] bare other es fs a b hs ds ses sfs l ha hb q = (λ j m. absurd (omega arith), q)
same_factors (n ∷ names) bare other [] [] a b hs ds ses sfs l ha hb q = (λ j m. refl, q)
same_factors (n ∷ names) bare other [] (f ∷ fs) a b hs ds ses sfs l ha hb q = absurd (omega arith)
same_factors (n ∷ names) bare other (e ∷ es) [] a b hs ds ses sfs l ha hb q = absurd (omega arith)
same_factors (n ∷ names) bare other (zero ∷ es) (zero ∷ fs) a b hs ds ses sfs l ha hb q =
    let r = same_factors names bare other es fs a b hs.1 ds.1 ses.1 sfs.1 (omega arith) ha hb q in
    (agree_more (length names) 0 0 es fs refl r.0, r.1)
same_factors (n ∷ names) bare other (zero ∷ es) (suc f ∷ fs) a b hs ds ses sfs l ha hb q =
    let text = starred bare (factor_texts (n ∷ names) (zero ∷ es)) ++ a in
    let front = drop (star_at text) text in
    let left = none_written n names es a front (power_front bare n zero names es a text (star_at text) hs.0 hs.1 ds.0 ha refl refl) in
    let right = one_written f n names fs b front (power_front other n (suc f) names fs b text (star_at text) hs.0 hs.1 ds.0 hb refl q) in
    absurd (not_both n front (exponent_text (suc f) ++ (starred false (factor_texts names fs) ++ b)) hs.0 (exponent_end (suc f) (starred false (factor_texts names fs) ++ b) (TermEnd-FactorEnd (factor_texts names fs) b hb)) left right)
same_factors (n ∷ names) bare other (suc e ∷ es) (zero ∷ fs) a b hs ds ses sfs l ha hb q =
    let text = starred bare (factor_texts (n ∷ names) (suc e ∷ es)) ++ a in
    let front = drop (star_at text) text in
    let left = one_written e n names es a front (power_front bare n (suc e) names es a text (star_at text) hs.0 hs.1 ds.0 ha refl refl) in
    let right = none_written n names fs b front (power_front other n zero names fs b text (star_at text) hs.0 hs.1 ds.0 hb refl q) in
    absurd (not_both n front (exponent_text (suc e) ++ (starred false (factor_texts names es) ++ a)) hs.0 (exponent_end (suc e) (starred false (factor_texts names es) ++ a) (TermEnd-FactorEnd (factor_texts names es) a ha)) right left)
same_factors (n ∷ names) bare other (suc e ∷ es) (suc f ∷ fs) a b hs ds ses sfs l ha hb q =
    let text = starred bare (factor_texts (n ∷ names) (suc e ∷ es)) ++ a in
    let front = drop (star_at text) text in
    let left = one_written e n names es a front (power_front bare n (suc e) names es a text (star_at text) hs.0 hs.1 ds.0 ha refl refl) in
    let right = one_written f n names fs b front (power_front other n (suc f) names fs b text (star_at text) hs.0 hs.1 ds.0 hb refl q) in
    let behind_left = starred false (factor_texts names es) ++ a in
    let behind_right = starred false (factor_texts names fs) ++ b in
    let end_left = TermEnd-FactorEnd (factor_texts names es) a ha in
    let end_right = TermEnd-FactorEnd (factor_texts names fs) b hb in
    let word = same_front n n (exponent_text (suc e) ++ behind_left) (exponent_text (suc f) ++ behind_right) (name_bytes n hs.0) (name_bytes n hs.0) (exponent_end (suc e) behind_left end_left) (exponent_end (suc f) behind_right end_right) (sym left ∙ right) in
    let power = same_exponent (suc e) (suc f) behind_left behind_right ses.0 sfs.0 (omega arith) (omega arith) end_left end_right word.1 in
    let r = same_factors names false false es fs a b hs.1 ds.1 ses.1 sfs.1 (omega arith) ha hb power.1 in
    (agree_more (length names) (suc e) (suc f) es fs power.0 r.0, r.1)

-- ---- terms

same_integer : (y z : ℤ) → is_negative y ≡ is_negative z → nat_abs y ≡ nat_abs z → y ≡ z
same_integer (pos m) (pos n) s e = ap pos e
same_integer (pos m) (negsuc n) s e = absurd (true≢false (sym s))
same_integer (negsuc m) (pos n) s e = absurd (true≢false s)
same_integer (negsuc m) (negsuc n) s e = ap negsuc (let h : m ≡ n = omega (arith, e) in h)

same_fraction : (p q : Fraction) → is_negative p.num ≡ is_negative q.num → nat_abs p.num ≡ nat_abs q.num → p.den ≡ q.den → p ≡ q
same_fraction p q s n d =
    let num = same_integer p.num q.num s n in
    sym (reduce-self p) ∙ (λ i. reduce (num i) (d i)) ∙ reduce-self q

same_monomial : (s : Signature) (m n : Monomial) (count : ℕ) → count ≡ length s.kinds → MonomialOf s m → MonomialOf s n → AgreeUpTo count m.exponents n.exponents → m ≡ n
same_monomial s m n count c hm hn h = sym (seen_again m) ∙ ap monomial_of (ext_get_or 0 m.exponents n.exponents (m.twelve ∙ sym n.twelve) (λ j l. by j (cases_lt j count))) ∙ seen_again n
  where
    by : (j : ℕ) → (j < count) ⊎ (count ≤ j) → get_or m.exponents j 0 ≡ get_or n.exponents j 0
    by j (inl l) = h j l
    by j (inr l) =
        let past : length s.kinds ≤ j = omega arith in
        sym (exponent_is m j) ∙ hm j past ∙ sym (hn j past) ∙ exponent_is n j

small_by_sum : (es : List ℕ) → sum es ≤ 32767 → AreSmall es
small_by_sum [] h = tt
small_by_sum (e ∷ es) h = let total : e + sum es ≤ 32767 = subst (λ n. n ≤ 32767) (sum_by-cons (λ x. x) e es) h in (omega arith, small_by_sum es (omega arith))

small_exponents : (m : Monomial) → degree m ≤ 32767 → AreSmall m.exponents
unfolding degree
small_exponents m h = small_by_sum m.exponents h

letter_or_digit : (b : ℕ) → is_ascii_digit b ≡ true → is_ascii_alphabetic b ≡ true → ⊥
letter_or_digit b d l = true≢false (sym d ∙ letter_no_digit b l)

-- a text doesn't begin both with a number and with a letter
number_or_letter : (n : ℕ) (more text : List ℕ) → n < 2 ^ 127 → text ≡ decimal n ++ more → BeginsWithLetter text → ⊥
number_or_letter n more text h e l = letter_or_digit (get_or text 0 0) (ap (λ x. is_ascii_digit (get_or x 0 0)) e ∙ decimal_first n more h) l

-- the magnitudes are the same, and what the factors are in both
record IsSameCoefficient (names : List (List ℕ)) (t u : Summand) (a b : List ℕ) : Type 0 where
  numerator : nat_abs t.1.num ≡ nat_abs u.1.num
  denominator : t.1.den ≡ u.1.den
  bare : Bool
  factors : starred bare (factors_of names t) ++ a ≡ starred bare (factors_of names u) ++ b

same_coefficient : (names : List (List ℕ)) (t u : Summand) (a b : List ℕ) → AllByRecursion IsName names → IsStorableTerm t → IsStorableTerm u → IsTermEnd a → IsTermEnd b → term_text names t ++ a ≡ term_text names u ++ b → IsSameCoefficient names t u a b
same_coefficient names t u a b h ht hu ha hb e = by (term_front names t a h) (term_front names u b h)
  where
    by : (term_text names t ++ a ≡ decimal (nat_abs t.1.num) ++ (denominator_text t.1.den ++ (starred false (factors_of names t) ++ a)))
        ⊎ ((is_one t.1 ≡ true) × (term_text names t ++ a ≡ starred true (factors_of names t) ++ a) × BeginsWithLetter (starred true (factors_of names t) ++ a))
        → (term_text names u ++ b ≡ decimal (nat_abs u.1.num) ++ (denominator_text u.1.den ++ (starred false (factors_of names u) ++ b)))
        ⊎ ((is_one u.1 ≡ true) × (term_text names u ++ b ≡ starred true (factors_of names u) ++ b) × BeginsWithLetter (starred true (factors_of names u) ++ b))
        → IsSameCoefficient names t u a b
    by (inl p) (inl q) =
        let behind_left = starred false (factors_of names t) ++ a in
        let behind_right = starred false (factors_of names u) ++ b in
        let end_left = TermEnd-FactorEnd (factors_of names t) a ha in
        let end_right = TermEnd-FactorEnd (factors_of names u) b hb in
        let n = same_number (nat_abs t.1.num) (nat_abs u.1.num) (denominator_text t.1.den ++ behind_left) (denominator_text u.1.den ++ behind_right) ht.numerator hu.numerator (denominator_end t.1.den behind_left end_left) (denominator_end u.1.den behind_right end_right) (sym p ∙ e ∙ q) in
        let d = same_denominator t.1.den u.1.den behind_left behind_right ht.denominator hu.denominator end_left end_right n.1 in
        record { numerator = n.0; denominator = d.0; bare = false; factors = d.1 }
    by (inl p) (inr q) = absurd (number_or_letter (nat_abs t.1.num) (denominator_text t.1.den ++ (starred false (factors_of names t) ++ a)) (starred true (factors_of names u) ++ b) ht.numerator (sym q.1 ∙ sym e ∙ p) q.2)
    by (inr p) (inl q) = absurd (number_or_letter (nat_abs u.1.num) (denominator_text u.1.den ++ (starred false (factors_of names u) ++ b)) (starred true (factors_of names t) ++ a) hu.numerator (sym p.1 ∙ e ∙ q) p.2)
    by (inr p) (inr q) = record {
      numerator = (one_parts t.1 p.0).0 ∙ sym (one_parts u.1 q.0).0;
      denominator = (one_parts t.1 p.0).1 ∙ sym (one_parts u.1 q.0).1;
      bare = true;
      factors = sym p.1 ∙ e ∙ q.1;
    }

-- ---- signs

abbrev BeginsWithName : List ℕ → Type 0
BeginsWithName text = is_name_byte (get_or text 0 0) ≡ true

no_minus : (a b : List ℕ) → BeginsWithName a → a ≡ 45 ∷ b → ⊥
no_minus a b h e = true≢false (sym h ∙ ap (λ x. is_name_byte (get_or x 0 0)) e)

same_first_sign : (y z : ℤ) (a b : List ℕ) → BeginsWithName a → BeginsWithName b → sign_text y [] (codes "-") ++ a ≡ sign_text z [] (codes "-") ++ b → (is_negative y ≡ is_negative z) × (a ≡ b)
same_first_sign (pos m) (pos n) a b h k e = (refl, e)
same_first_sign (pos m) (negsuc n) a b h k e = absurd (no_minus a b h e)
same_first_sign (negsuc m) (pos n) a b h k e = absurd (no_minus b a k (sym e))
same_first_sign (negsuc m) (negsuc n) a b h k e = (refl, (same_cons 45 45 a b e).1)

same_later_sign : (y z : ℤ) (a b : List ℕ) → sign_text y (codes " + ") (codes " - ") ++ a ≡ sign_text z (codes " + ") (codes " - ") ++ b → (is_negative y ≡ is_negative z) × (a ≡ b)
same_later_sign (pos m) (pos n) a b e = (refl, ap (drop 3) e)
same_later_sign (pos m) (negsuc n) a b e = absurd (let h = ap (λ x. get_or x 1 0) e in omega arith)
same_later_sign (negsuc m) (pos n) a b e = absurd (let h = ap (λ x. get_or x 1 0) e in omega arith)
same_later_sign (negsuc m) (negsuc n) a b e = (refl, ap (drop 3) e)

-- ---- all terms

nothing_filled : (text : List ℕ) → text ≡ [] → 0 < length text → ⊥
nothing_filled text e h = let f = ap length e in omega arith

module _ (s : Signature) (names : List (List ℕ)) (are : AreNames names) (count : length names ≡ length s.kinds) where
  same_term : (t u : Summand) (a b : List ℕ) → IsPrintableTerm s t → IsPrintableTerm s u → IsTermEnd a → IsTermEnd b → is_negative t.1.num ≡ is_negative u.1.num → term_text names t ++ a ≡ term_text names u ++ b → (t ≡ u) × (a ≡ b)
  same_term t u a b ht hu ha hb sign e =
      let c = same_coefficient names t u a b are.form ht.storable hu.storable ha hb e in
      let f = same_factors names c.bare c.bare t.0.exponents u.0.exponents a b are.form are.distinct (small_exponents t.0 ht.storable.degree) (small_exponents u.0 hu.storable.degree) (t.0.twelve ∙ sym u.0.twelve) ha hb c.factors in
      let m = same_monomial s t.0 u.0 (length names) count ht.variables hu.variables f.0 in
      let q = same_fraction t.1 u.1 sign c.numerator c.denominator in
      (λ i. (m i, q i), f.1)

  abbrev ArePrintable : Terms → Type 0
  ArePrintable ts = AllByRecursion (IsPrintableTerm s) ts

  same_others : (ts us : Terms) → ArePrintable ts → ArePrintable us → flat_map (later_text names) ts ≡ flat_map (later_text names) us → ts ≡ us
  same_others [] [] ht hu e = refl
  same_others [] (u ∷ us) ht hu e = absurd (nothing_filled (flat_map (later_text names) (u ∷ us)) (sym e) (later_filled names u us))
  same_others (t ∷ ts) [] ht hu e = absurd (nothing_filled (flat_map (later_text names) (t ∷ ts)) e (later_filled names t ts))
  same_others (t ∷ ts) (u ∷ us) ht hu e =
      let a = flat_map (later_text names) ts in
      let b = flat_map (later_text names) us in
      let split = sym (append_assoc (sign_text t.1.num (codes " + ") (codes " - ")) (term_text names t) a) ∙ e ∙ append_assoc (sign_text u.1.num (codes " + ") (codes " - ")) (term_text names u) b in
      let sign = same_later_sign t.1.num u.1.num (term_text names t ++ a) (term_text names u ++ b) split in
      let term = same_term t u a b ht.0 hu.0 (later_end names ts) (later_end names us) sign.0 sign.1 in
      let rest = same_others ts us ht.1 hu.1 term.1 in
      λ i. term.0 i ∷ rest i

  -- two texts of first terms, with others behind them
  same_begun : (t u : Summand) (a b : List ℕ) → IsPrintableTerm s t → IsPrintableTerm s u → IsTermEnd a → IsTermEnd b
      → sign_text t.1.num [] (codes "-") ++ (term_text names t ++ a) ≡ sign_text u.1.num [] (codes "-") ++ (term_text names u ++ b) → (t ≡ u) × (a ≡ b)
  same_begun t u a b ht hu ha hb e =
      let sign = same_first_sign t.1.num u.1.num (term_text names t ++ a) (term_text names u ++ b) (term_first names t a are.form ht.storable.numerator) (term_first names u b are.form hu.storable.numerator) e in
      same_term t u a b ht hu ha hb sign.0 sign.1

  first_split : (t : Summand) (ts : Terms) → terms_text names (t ∷ ts) ≡ sign_text t.1.num [] (codes "-") ++ (term_text names t ++ flat_map (later_text names) ts)
  first_split t ts = append_assoc (sign_text t.1.num [] (codes "-")) (term_text names t) (flat_map (later_text names) ts)

  -- `0` is no text of a term that isn't 0
  not_zero_text : (t : Summand) (ts : Terms) → t.1 ≢ whole (pos 0) → IsPrintableTerm s t → codes "0" ≡ terms_text names (t ∷ ts) → ⊥
  not_zero_text t ts n h e =
      let same = same_begun zero_term t [] (flat_map (later_text names) ts) (zero_good s) h tt (later_end names ts) (sym (zero_text names) ∙ e ∙ first_split t ts) in
      n (sym (ap (λ u. u.1) same.0))

  same_terms : (ts us : Terms) → ArePrintable ts → ArePrintable us → AreNonZero rationals ts → AreNonZero rationals us → terms_text names ts ≡ terms_text names us → ts ≡ us
  same_terms [] [] ht hu nt nu e = refl
  same_terms [] (u ∷ us) ht hu nt nu e = absurd (not_zero_text u us nu.0 hu.0 e)
  same_terms (t ∷ ts) [] ht hu nt nu e = absurd (not_zero_text t ts nt.0 ht.0 (sym e))
  same_terms (t ∷ ts) (u ∷ us) ht hu nt nu e =
      let first = same_begun t u (flat_map (later_text names) ts) (flat_map (later_text names) us) ht.0 hu.0 (later_end names ts) (later_end names us) (sym (first_split t ts) ∙ e ∙ first_split u us) in
      let rest = same_others ts us ht.1 hu.1 first.1 in
      λ i. first.0 i ∷ rest i

falling_texts : (names : List (List ℕ)) (o : Order) (f g : Operator rationals) → operator_text names o f ≡ operator_text names o g → terms_text names (falling o f) ≡ terms_text names (falling o g)
unfolding operator_text
falling_texts names o f g e = e

pub canonical_is_unique : CanonicalIsUnique
canonical_is_unique s names f g h k e =
    let o = s.order in
    let terms = same_terms s names h.names_fit h.count (falling o f) (falling o g) (printable_falling s names f o h) (printable_falling s names g o k) (falls-falling o f).apart (falls-falling o g).apart (falling_texts names o f g e) in
    sym (collect-falling o f) ∙ ap (collect rationals plain_cmp) terms ∙ collect-falling o g
