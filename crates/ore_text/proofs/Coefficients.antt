-- The coefficient of a term in its text, and what follows it.
--     BeginsWithLetter                    the first byte of a text is a letter
--     magnitude_parts                     a magnitude is the numerator and what follows it
--     factors_of                          the texts of the factors of a term
--     term_front                          a term begins with its magnitude, or with a factor where the magnitude 1 is
--                                         left out
--     Rest                                what follows the numerator of a term, or stands there where the magnitude 1
--                                         is left out
--     IsNumerator, IsDenominator          a number and a length of text are the numerator, or the denominator, of the
--                                         term, and what it takes
--     denominator_end                     what follows a numerator ends it
--     one_parts                           the numbers of a magnitude 1
--     IsReadNumber                              a number and a length of text are this number, and what stands before the
--                                         rest
--     numerator_read, denominator_read    what is read there
use Rattle.std.proofs.Common.{◌≡◌, ◌≢◌, ◌⊎◌, inl, inr, ℕ, zero, suc, ◌<◌, ◌^◌, Bool, true, false, cond, ◌&&◌, nat_eq, List, [], ◌∷◌, ◌++◌, drop, get_or, refl, sym, ap, ◌∙◌, subst, append_assoc, arith, Some, None, nat_abs}
use Rattle.std.specs.Prelude.{decimal, MatchOption}
use Rattle.std.specs.declared.option.Option.{Option}
use Rattle.std.specs.List.{AllByRecursion}
use Rattle.std.specs.Char.{is_ascii_digit, is_ascii_alphabetic}
use Rattle.std.proofs.lemmas.Bool.Decides.{nat_tests}
use Rattle.std.proofs.lemmas.List.{append-nil}
use Rattle.ore_rational.specs.Fraction.{Fraction}
use Rattle.ore_ring.specs.Terms.{Summand}
use Rattle.ore_text.specs.CanonicalParts.{starred, stays_bare, denominator_text, IsWordEnd, IsFactorEnd, IsTermEnd}
use Rattle.ore_text.specs.CanonicalText.{power_text, factor_texts, magnitude_text, is_one, with_factors, term_text}
use Rattle.ore_text.specs.Names.{IsName}
use Rattle.ore_text.proofs.Known.{is_some}
use Rattle.ore_text.proofs.Printing.{stays_false, term_text-starred}
use Rattle.ore_text.proofs.CanonicalReading.{FactorEnd-WordEnd, TermEnd-FactorEnd}
use Rattle.ore_text.proofs.ByteTests.{letter_no_digit}

-- a factor begins with a letter
abbrev pub BeginsWithLetter : List ℕ → Type 0
BeginsWithLetter text = is_ascii_alphabetic (get_or text 0 0) ≡ true

name_first : (name more : List ℕ) → IsName name → BeginsWithLetter (name ++ more)
name_first [] more h = absurd h
name_first (b ∷ bs) more h = h.0

power_first : (name : List ℕ) (e : ℕ) (fs : List (List ℕ)) (tail : List ℕ) → IsName name → 0 < e → BeginsWithLetter (starred true (power_text name e ++ fs) ++ tail)
power_first name zero fs tail h l = absurd (omega arith)
power_first name (suc zero) fs tail h l = subst BeginsWithLetter (sym (append_assoc name (starred false fs) tail)) (name_first name (starred false fs ++ tail) h)
power_first [] (suc (suc e)) fs tail h l = absurd h
power_first (b ∷ bs) (suc (suc e)) fs tail h l = h.0

-- no factor stands in a term, or the first begins with a letter
factors_first : (names : List (List ℕ)) (es tail : List ℕ) → AllByRecursion IsName names → (factor_texts names es ≡ []) ⊎ ((stays_bare true (factor_texts names es) ≡ false) × BeginsWithLetter (starred true (factor_texts names es) ++ tail))
factors_first [] es tail h = inl refl
factors_first (n ∷ names) [] tail h = inl refl
factors_first (n ∷ names) (zero ∷ es) tail h = factors_first names es tail h.1
factors_first (n ∷ names) (suc zero ∷ es) tail h = inr (refl, power_first n 1 (factor_texts names es) tail h.0 (omega arith))
factors_first (n ∷ names) (suc (suc e) ∷ es) tail h = inr (refl, power_first n (suc (suc e)) (factor_texts names es) tail h.0 (omega arith))

pub magnitude_parts : (q : Fraction) → magnitude_text q ≡ decimal (nat_abs q.num) ++ denominator_text q.den
magnitude_parts q = by (nat_eq q.den 1)
  where
    by : (b : Bool) → cond b (decimal (nat_abs q.num)) ((decimal (nat_abs q.num) ++ 47 ∷ []) ++ decimal q.den) ≡ decimal (nat_abs q.num) ++ cond b [] (47 ∷ decimal q.den)
    by true = sym (append-nil (decimal (nat_abs q.num)))
    by false = append_assoc (decimal (nat_abs q.num)) (47 ∷ []) (decimal q.den)

abbrev pub factors_of : List (List ℕ) → Summand → List (List ℕ)
factors_of names t = factor_texts names t.0.exponents

-- a term has its magnitude in front, or its magnitude is 1 and its first factor stands there
pub term_front : (names : List (List ℕ)) (t : Summand) (tail : List ℕ) → AllByRecursion IsName names
    → (term_text names t ++ tail ≡ decimal (nat_abs t.1.num) ++ (denominator_text t.1.den ++ (starred false (factors_of names t) ++ tail)))
    ⊎ ((is_one t.1 ≡ true) × (term_text names t ++ tail ≡ starred true (factors_of names t) ++ tail) × BeginsWithLetter (starred true (factors_of names t) ++ tail))
term_front names t tail h = by (is_one t.1) refl (factors_first names t.0.exponents tail h)
  where
    fs : List (List ℕ)
    fs = factors_of names t

    written : (with_factors t.1 fs ≡ magnitude_text t.1 ++ starred false fs) → term_text names t ++ tail ≡ decimal (nat_abs t.1.num) ++ (denominator_text t.1.den ++ (starred false fs ++ tail))
    written e =
        ap (λ x. x ++ tail) (e ∙ ap (λ x. x ++ starred false fs) (magnitude_parts t.1))
        ∙ append_assoc (decimal (nat_abs t.1.num) ++ denominator_text t.1.den) (starred false fs) tail
        ∙ append_assoc (decimal (nat_abs t.1.num)) (denominator_text t.1.den) (starred false fs ++ tail)

    none : (fs : List (List ℕ)) → fs ≡ [] → with_factors t.1 fs ≡ magnitude_text t.1 ++ starred false fs
    none fs e = (λ i. with_factors t.1 (e i)) ∙ sym (append-nil (magnitude_text t.1)) ∙ (λ i. magnitude_text t.1 ++ starred false (sym e i))

    by : (b : Bool) → is_one t.1 ≡ b → (fs ≡ []) ⊎ ((stays_bare true fs ≡ false) × BeginsWithLetter (starred true fs ++ tail))
        → (term_text names t ++ tail ≡ decimal (nat_abs t.1.num) ++ (denominator_text t.1.den ++ (starred false fs ++ tail)))
        ⊎ ((is_one t.1 ≡ true) × (term_text names t ++ tail ≡ starred true fs ++ tail) × BeginsWithLetter (starred true fs ++ tail))
    by b e (inl n) = inl (written (none fs n))
    by true e (inr f) =
        inr (e, ap (λ x. x ++ tail) (term_text-starred t.1 fs true e ∙ ap (λ b. starred true fs ++ cond b (magnitude_text t.1) []) f.0 ∙ append-nil (starred true fs)), f.1)
    by false e (inr f) =
        inl (written (term_text-starred t.1 fs false e ∙ ap (λ b. (magnitude_text t.1 ++ starred false fs) ++ cond b (magnitude_text t.1) []) (stays_false fs) ∙ append-nil (magnitude_text t.1 ++ starred false fs)))

abbrev pub Rest : List (List ℕ) → Summand → List ℕ → List ℕ → Type 0
Rest names t tail rest =
    (rest ≡ denominator_text t.1.den ++ (starred false (factors_of names t) ++ tail))
    ⊎ ((t.1.den ≡ 1) × (rest ≡ starred true (factors_of names t) ++ tail) × (get_or rest 0 0 ≢ 47))

abbrev pub IsNumerator : List (List ℕ) → Summand → List ℕ → List ℕ → ℕ × ℕ → Type 0
IsNumerator names t tail text r = (r.0 ≡ nat_abs t.1.num) × Rest names t tail (drop r.1 text)

abbrev pub IsDenominator : List (List ℕ) → Summand → List ℕ → List ℕ → ℕ × ℕ → Type 0
IsDenominator names t tail rest r = (r.0 ≡ t.1.den) × ((bare : Bool) × (drop r.1 rest ≡ starred bare (factors_of names t) ++ tail))

abbrev pub IsReadNumber : ℕ → List ℕ → List ℕ → ℕ × ℕ → Type 0
IsReadNumber n text tail r = (r.0 ≡ n) × (drop r.1 text ≡ tail)

pub denominator_end : (d : ℕ) (more : List ℕ) → IsFactorEnd more → IsWordEnd (denominator_text d ++ more)
denominator_end d more h = by (nat_eq d 1)
  where
    by : (b : Bool) → IsWordEnd (cond b [] (47 ∷ decimal d) ++ more)
    by true = FactorEnd-WordEnd more h
    by false = refl

no_slash : (b : ℕ) → is_ascii_alphabetic b ≡ true → b ≢ 47
no_slash b h e = grind (arith, nat_tests)

pub one_parts : (q : Fraction) → is_one q ≡ true → (nat_abs q.num ≡ 1) × (q.den ≡ 1)
one_parts q h = by (nat_abs q.num) q.den h
  where
    by : (n d : ℕ) → (nat_eq n 1 && nat_eq d 1) ≡ true → (n ≡ 1) × (d ≡ 1)
    by n d h = (grind (arith, nat_tests), grind (arith, nat_tests))

pub numerator_read : (names : List (List ℕ)) (t : Summand) (tail text : List ℕ) (r : Option (ℕ × ℕ)) → AllByRecursion IsName names → nat_abs t.1.num < 2 ^ 127 → IsTermEnd tail → text ≡ term_text names t ++ tail
    → ((n : ℕ) (tail : List ℕ) → n < 2 ^ 127 → IsWordEnd tail → text ≡ decimal n ++ tail → MatchOption r ⊥ (IsReadNumber n text tail))
    → (is_ascii_digit (get_or text 0 0) ≡ false → r ≡ Some (1, 0))
    → MatchOption r ⊥ (IsNumerator names t tail text)
numerator_read names t tail text r h bound end e only none = by (term_front names t tail h)
  where
    fs : List (List ℕ)
    fs = factors_of names t

    more : List ℕ
    more = denominator_text t.1.den ++ (starred false fs ++ tail)

    read : (o : Option (ℕ × ℕ)) → MatchOption o ⊥ (IsReadNumber (nat_abs t.1.num) text more) → MatchOption o ⊥ (IsNumerator names t tail text)
    read None m = m
    read (Some r) m = (m.0, inl m.1)

    by : (term_text names t ++ tail ≡ decimal (nat_abs t.1.num) ++ more)
        ⊎ ((is_one t.1 ≡ true) × (term_text names t ++ tail ≡ starred true fs ++ tail) × BeginsWithLetter (starred true fs ++ tail))
        → MatchOption r ⊥ (IsNumerator names t tail text)
    by (inl w) = read r (only (nat_abs t.1.num) more bound (denominator_end t.1.den (starred false fs ++ tail) (TermEnd-FactorEnd fs tail end)) (e ∙ w))
    by (inr b) =
        let letter : BeginsWithLetter text = subst BeginsWithLetter (sym (e ∙ b.1)) b.2 in
        is_some (IsNumerator names t tail text) r (1, 0) (none (letter_no_digit (get_or text 0 0) letter)) (sym (one_parts t.1 b.0).0, inr ((one_parts t.1 b.0).1, e ∙ b.1, no_slash (get_or text 0 0) letter))

pub denominator_read : (names : List (List ℕ)) (t : Summand) (tail rest : List ℕ) (r : Option (ℕ × ℕ)) → t.1.den < 2 ^ 127 → IsTermEnd tail → Rest names t tail rest
    → ((n : ℕ) (tail : List ℕ) → n < 2 ^ 127 → IsFactorEnd tail → rest ≡ denominator_text n ++ tail → MatchOption r ⊥ (IsReadNumber n rest tail))
    → (get_or rest 0 0 ≢ 47 → r ≡ Some (1, 0))
    → MatchOption r ⊥ (IsDenominator names t tail rest)
denominator_read names t tail rest r bound end (inl e) only none = read r (only t.1.den (starred false (factors_of names t) ++ tail) bound (TermEnd-FactorEnd (factors_of names t) tail end) e)
  where
    read : (o : Option (ℕ × ℕ)) → MatchOption o ⊥ (IsReadNumber t.1.den rest (starred false (factors_of names t) ++ tail)) → MatchOption o ⊥ (IsDenominator names t tail rest)
    read None m = m
    read (Some r) m = (m.0, (false, m.1))
denominator_read names t tail rest r bound end (inr b) only none = is_some (IsDenominator names t tail rest) r (1, 0) (none b.2) (sym b.0, (true, b.1))
