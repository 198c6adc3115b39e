-- The walk over a canonical text, term by term.
--     Left                     of the terms of an operator some are added, and the text of the others is left
--     term_first, later_end    a term begins with a name byte; behind a term stands a space or nothing
--     later_filled             a term behind another has some text
--     below_others             of falling terms each is below those before it
--     IsTaken                  a term was added, and its text was passed
--     zero_term, zero_text, zero_good
--                              the term 0, whose text is `0`, and which may be printed
--     HasFirstTerm, first_term  the walk begins with the first term, or with 0
--     HasNextTerm, next_term   and goes on with the next
--     no_others                to the end, where all terms are added
--     same_operator            operators with the same falling terms are the same
use Rattle.std.proofs.Common.{◌≡◌, ◌≢◌, inl, inr, ℕ, zero, suc, ◌<◌, ◌≤◌, ◌^◌, true, List, [], ◌∷◌, ◌++◌, length, drop, get_or, replicate, pos, negsuc, ℤ, nat_abs, refl, sym, ap, ◌∙◌, subst, append_assoc, arith}
use Rattle.std.specs.Prelude.{codes}
use Rattle.std.specs.List.{AllByRecursion, flat_map}
use Rattle.std.specs.Char.{is_ascii_digit, is_ascii_alphabetic}
use Rattle.std.proofs.lemmas.Fmt.{decimal_digit}
use Rattle.ore_algebra.specs.Free.{collect}
use Rattle.ore_rational.specs.Fraction.{whole}
use Rattle.ore_rational.specs.Field.{rationals}
use Rattle.ore_monomial.specs.Monomial.{unit, degree, plain_cmp}
use Rattle.ore_monomial.specs.Signature.{Signature}
use Rattle.ore_monomial.specs.declared.order.Order.{Order}
use Rattle.ore_monomial.specs.LetterRule.{Operator}
use Rattle.ore_monomial.proofs.Monomials.{exponent-unit}
use Rattle.ore_ring.specs.Ordered.{Ordered}
use Rattle.ore_ring.specs.Terms.{Summand, Terms, falling, IsBelowLast, IsFalling}
use Rattle.ore_ring.proofs.Falls.{falls_tail, first, less_of}
use Rattle.ore_ring.proofs.TermLaws.{collect-falling}
use Rattle.ore_text.specs.CanonicalParts.{IsTermEnd, falling_terms, term_unless_zero, IsPrintableTerm}
use Rattle.ore_text.specs.CanonicalText.{factor_texts, with_factors, sign_text, term_text, later_text, terms_text}
use Rattle.ore_text.specs.Names.{IsName, is_name_byte}
use Rattle.ore_text.proofs.Appending.{kept-zero, kept-other}
use Rattle.ore_text.proofs.CanonicalReading.{decimal_first}
use Rattle.ore_text.proofs.Coefficients.{term_front}
use Rattle.ore_text.proofs.ByteTests.{letter_in_name, digit_in_name}

pub record Left (names : List (List ℕ)) (all done : Terms) (rest : List ℕ) : Type 0 where
  pub others : Terms
  pub all_are : all ≡ done ++ others
  pub left : rest ≡ flat_map (later_text names) others

-- ---- what stands where a term begins and ends

pub term_first : (names : List (List ℕ)) (t : Summand) (tail : List ℕ) → AllByRecursion IsName names → nat_abs t.1.num < 2 ^ 127 → is_name_byte (get_or (term_text names t ++ tail) 0 0) ≡ true
term_first names t tail h n = elim (term_front names t tail h) [
  | inl w ↦ digit_in_name (get_or (term_text names t ++ tail) 0 0) (ap (λ x. is_ascii_digit (get_or x 0 0)) w ∙ decimal_first (nat_abs t.1.num) _ n)
  | inr b ↦ letter_in_name (get_or (term_text names t ++ tail) 0 0) (ap (λ x. is_ascii_alphabetic (get_or x 0 0)) b.1 ∙ b.2)
]

pub later_end : (names : List (List ℕ)) (ts : Terms) → IsTermEnd (flat_map (later_text names) ts)
later_end names [] = tt
later_end names (t ∷ ts) = by t.1.num
  where
    by : (z : ℤ) → IsTermEnd ((sign_text z (codes " + ") (codes " - ") ++ term_text names t) ++ flat_map (later_text names) ts)
    by (pos n) = refl
    by (negsuc n) = refl

pub later_filled : (names : List (List ℕ)) (t : Summand) (ts : Terms) → 0 < length (flat_map (later_text names) (t ∷ ts))
later_filled names t ts = by t.1.num
  where
    by : (z : ℤ) → 0 < length ((sign_text z (codes " + ") (codes " - ") ++ term_text names t) ++ flat_map (later_text names) ts)
    by (pos n) = omega arith
    by (negsuc n) = omega arith

-- ---- terms below others

pub below_others : (o : Order) (xs : Terms) (t : Summand) (ys : Terms) → IsFalling o (xs ++ t ∷ ys) → IsBelowLast o xs t.0
below_others o [] t ys h = tt
below_others o (u ∷ []) t ys h = less_of _ (first _ _ (first _ _ h.falls))
below_others o (u ∷ v ∷ xs) t ys h = below_others o (v ∷ xs) t ys (falls_tail o u _ h)

not_zero : (o : Order) (xs : Terms) (t : Summand) (ys : Terms) → IsFalling o (xs ++ t ∷ ys) → t.1 ≢ whole (pos 0)
not_zero o [] t ys h = h.apart.0
not_zero o (u ∷ xs) t ys h = not_zero o xs t ys (falls_tail o u _ h)

one_of : (P : Summand → Type 0) (xs : Terms) (t : Summand) (ys : Terms) → AllByRecursion P (xs ++ t ∷ ys) → P t
one_of P [] t ys h = h.0
one_of P (u ∷ xs) t ys h = one_of P xs t ys h.1

append_assoc_terms : (xs ys zs : Terms) → (xs ++ ys) ++ zs ≡ xs ++ (ys ++ zs)
append_assoc_terms [] ys zs = refl
append_assoc_terms (x ∷ xs) ys zs = ap (λ us. x ∷ us) (append_assoc_terms xs ys zs)

append_nil_terms : (xs : Terms) → xs ++ [] ≡ xs
append_nil_terms [] = refl
append_nil_terms (x ∷ xs) = ap (λ us. x ∷ us) (append_nil_terms xs)

-- a term was added, and its text was passed
abbrev pub IsTaken : List ℕ → List ℕ → Terms → Terms → Summand → ℕ → Type 0
IsTaken text tail old new t next = (drop next text ≡ tail) × (new ≡ old ++ term_unless_zero t)

-- ---- the next term

-- what the next call reads: a term, and the text behind it
pub record HasNextTerm (s : Signature) (o : Order) (names : List (List ℕ)) (all done : Terms) (rest : List ℕ) : Type 0 where
  pub term : Summand
  pub tail : List ℕ
  pub good : IsPrintableTerm s term
  pub end : IsTermEnd tail
  pub below : IsBelowLast o done term.0
  pub spelled : rest ≡ later_text names term ++ tail
  pub goes_on : (next : Terms) (now : List ℕ) → now ≡ tail → next ≡ done ++ term_unless_zero term → Left names all next now

pub next_term : (s : Signature) (o : Order) (names : List (List ℕ)) (all done : Terms) (rest : List ℕ) → IsFalling o all → AllByRecursion (IsPrintableTerm s) all → 0 < length rest → Left names all done rest → HasNextTerm s o names all done rest
next_term s o names all done rest falls good filled h = by h.others h.all_are h.left
  where
    by : (ts : Terms) → all ≡ done ++ ts → rest ≡ flat_map (later_text names) ts → HasNextTerm s o names all done rest
    by [] e l = absurd (none rest l filled)
      where
        none : (rest : List ℕ) → rest ≡ [] → 0 < length rest → ⊥
        none rest e h = let f = ap length e in omega arith
    by (t ∷ ts) e l =
        let split : IsFalling o (done ++ t ∷ ts) = subst (IsFalling o) e falls in
        record {
          term = t;
          tail = flat_map (later_text names) ts;
          good = one_of (IsPrintableTerm s) done t ts (subst (AllByRecursion (IsPrintableTerm s)) e good);
          end = later_end names ts;
          below = below_others o done t ts split;
          spelled = l;
          goes_on = λ next now q f. record {
            others = ts;
            all_are = e ∙ sym (append_assoc_terms done (t ∷ []) ts) ∙ ap (λ us. us ++ ts) (sym (f ∙ ap (λ us. done ++ us) (kept-other t (not_zero o done t ts split))));
            left = q;
          };
        }

-- ---- the end

pub no_others : (names : List (List ℕ)) (all done : Terms) (rest : List ℕ) → length rest ≡ 0 → Left names all done rest → all ≡ done
no_others names all done rest e h = by h.others h.all_are h.left
  where
    by : (ts : Terms) → all ≡ done ++ ts → rest ≡ flat_map (later_text names) ts → all ≡ done
    by [] a l = a ∙ append_nil_terms done
    by (t ∷ ts) a l = absurd (let f = later_filled names t ts in let g = ap length l in omega arith)

pub same_operator : (o : Order) (f : Operator rationals) (g : Ordered) → falling o f ≡ falling_terms g → g.sum ≡ f
same_operator o f g e = sym (collect-falling g.by g.sum) ∙ ap (collect rationals plain_cmp) (sym e) ∙ collect-falling o f

-- ---- the first term

abbrev pub zero_term : Summand
zero_term = (unit, whole (pos 0))

no_factors : (names : List (List ℕ)) (n : ℕ) → factor_texts names (replicate n 0) ≡ []
no_factors [] n = refl
no_factors (name ∷ names) zero = refl
no_factors (name ∷ names) (suc n) = no_factors names n

pub zero_text : (names : List (List ℕ)) → codes "0" ≡ term_text names zero_term ++ []
unfolding unit
zero_text names = sym (ap (λ fs. with_factors (whole (pos 0)) fs ++ []) (no_factors names 12) ∙ ap (λ ds. ds ++ []) (decimal_digit 0 (omega arith)))

unit_degree : degree unit ≤ 32767
unfolding degree unit
unit_degree = omega arith

pub zero_good : (s : Signature) → IsPrintableTerm s zero_term
zero_good s = record { variables = λ x l. exponent-unit x; storable = record { numerator = omega arith; denominator = omega arith; degree = unit_degree } }

pub record HasFirstTerm (s : Signature) (o : Order) (names : List (List ℕ)) (all : Terms) (text : List ℕ) : Type 0 where
  pub term : Summand
  pub tail : List ℕ
  pub good : IsPrintableTerm s term
  pub end : IsTermEnd tail
  pub spelled : text ≡ sign_text term.1.num [] (codes "-") ++ (term_text names term ++ tail)
  pub goes_on : (next : Terms) (now : List ℕ) → now ≡ tail → next ≡ term_unless_zero term → Left names all next now

pub first_term : (s : Signature) (o : Order) (names : List (List ℕ)) (all : Terms) (text : List ℕ) → IsFalling o all → AllByRecursion (IsPrintableTerm s) all → text ≡ terms_text names all → HasFirstTerm s o names all text
first_term s o names [] text falls good e = record {
  term = zero_term;
  tail = [];
  good = zero_good s;
  end = tt;
  spelled = e ∙ zero_text names;
  goes_on = λ next now q f. record { others = []; all_are = sym (append_nil_terms next ∙ f ∙ kept-zero zero_term refl); left = q };
}
first_term s o names (t ∷ ts) text falls good e = record {
  term = t;
  tail = flat_map (later_text names) ts;
  good = good.0;
  end = later_end names ts;
  spelled = e ∙ append_assoc (sign_text t.1.num [] (codes "-")) (term_text names t) (flat_map (later_text names) ts);
  goes_on = λ next now q f. record { others = ts; all_are = ap (λ us. us ++ ts) (sym (f ∙ kept-other t falls.apart.0)); left = q };
}
