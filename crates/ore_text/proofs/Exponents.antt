-- The factors of all variables in the text of a term.
--     HasRead                            of the exponents of a monomial those before a variable were read, and the
--                                        factors from it on are left
--     IsPower                            the exponent of a variable was read, and the factors behind it are left
--     name_at, names_behind              a name at a place, and those from a place on, are of the form of names
--     others_behind                      the names behind a place differ from that at the place
--     exponent_small                     each exponent is at most 32,767
--     power_next                         what is left where the next variable is read
--     has_read                           then one more is read
--     zeros_kept                         the exponents behind one that is set stay 0
--     of_zeros                           exponents that are 0 from a variable on are of a signature that ends before it
--     values_are, monomial_is, sum_is    in the end the exponents that were read are those of the monomial, with their
--                                        sum
--     nothing_left                       in the end no factor is left
--     small_degree                       exponents with a sum in range have a degree in range
use Rattle.std.proofs.Common.{◌≡◌, ◌≢◌, ◌⊎◌, inl, inr, ℕ, zero, suc, ◌+◌, ◌<◌, ◌≤◌, Bool, List, [], ◌∷◌, ◌++◌, length, drop, get_or, set, slice_get, Some, refl, sym, ap, ◌∙◌, subst, arith, get_or-set_same, get_or-set_other, ext_get_or, add-one}
use Rattle.std.specs.List.{AllByRecursion, sum}
use Rattle.std.proofs.lemmas.List.Sums.{get_or-le-sum_by}
use Rattle.std.proofs.lemmas.Bool.{cases_lt}
use native.Mathlib.Decide.{ℕ_discrete}
use Rattle.ore_monomial.specs.Monomial.{Monomial, monomial_of, degree}
use Rattle.ore_monomial.specs.MonomialCode.{twelve_numbers, seen_again}
use Rattle.ore_monomial.specs.Signature.{Signature, MonomialOf}
use Rattle.ore_text.specs.CanonicalParts.{starred, stays_bare}
use Rattle.ore_text.specs.CanonicalText.{power_text, factor_texts}
use Rattle.ore_text.specs.Names.{IsDistinct}
use Rattle.ore_text.specs.Names.{IsName}
use Rattle.ore_text.proofs.Known.{same_some, not_none}
use Rattle.ore_text.proofs.Printing.{factor_texts-drop, factor_texts-none, exponent_is}
use Rattle.ore_text.proofs.CanonicalReading.{rest_at, rest_at-drop, drop_rest}

pub record HasRead (names : List (List ℕ)) (m : Monomial) (tail : List ℕ) (k : ℕ) (values rest : List ℕ) : Type 0 where
  pub bare : Bool
  pub left : rest ≡ starred bare (factor_texts (drop k names) (drop k m.exponents)) ++ tail
  pub done : (j : ℕ) → j < k → get_or values j 0 ≡ get_or m.exponents j 0

abbrev pub IsPower : List (List ℕ) → Monomial → List ℕ → ℕ → List ℕ → Bool → List ℕ → ℕ × ℕ → Type 0
IsPower names m tail k name bare rest r =
    (r.0 ≡ get_or m.exponents k 0)
    × (drop r.1 rest ≡ starred (stays_bare bare (power_text name (get_or m.exponents k 0))) (factor_texts (drop (suc k) names) (drop (suc k) m.exponents)) ++ tail)

pub name_at : (k : ℕ) (names : List (List ℕ)) (name : List ℕ) → slice_get names k ≡ Some name → AllByRecursion IsName names → IsName name
name_at k [] name e h = absurd (not_none e refl)
name_at zero (n ∷ names) name e h = subst IsName (same_some refl e) h.0
name_at (suc k) (n ∷ names) name e h = name_at k names name e h.1

pub names_behind : (k : ℕ) (names : List (List ℕ)) → AllByRecursion IsName names → AllByRecursion IsName (drop k names)
names_behind zero names h = h
names_behind (suc k) [] h = tt
names_behind (suc k) (n ∷ names) h = names_behind k names h.1

pub others_behind : (k : ℕ) (names : List (List ℕ)) (name : List ℕ) → slice_get names k ≡ Some name → IsDistinct names → AllByRecursion (λ n. n ≢ name) (drop (suc k) names)
others_behind k [] name e h = absurd (not_none e refl)
others_behind zero (n ∷ names) name e h = subst (λ m. AllByRecursion (λ n. n ≢ m) names) (same_some refl e) h.0
others_behind (suc k) (n ∷ names) name e h = others_behind k names name e h.1

pub exponent_small : (m : Monomial) (k : ℕ) → k < 12 → degree m ≤ 32767 → get_or m.exponents k 0 ≤ 32767
unfolding degree
exponent_small m k l h = let e = get_or-le-sum_by (λ x. x) m.exponents k 0 (let t = m.twelve in omega arith) in omega arith

pub power_next : (names : List (List ℕ)) (m : Monomial) (tail : List ℕ) (k : ℕ) (values text : List ℕ) (at : ℕ) (name : List ℕ) (h : HasRead names m tail k values (drop at text)) → slice_get names k ≡ Some name → k < 12
    → rest_at at text ≡ starred h.bare (power_text name (get_or m.exponents k 0) ++ factor_texts (drop (suc k) names) (drop (suc k) m.exponents)) ++ tail
power_next names m tail k values text at name h e l =
    rest_at-drop at text ∙ h.left ∙ ap (λ fs. starred h.bare fs ++ tail) (factor_texts-drop k names m.exponents name e (let t = m.twelve in omega arith))

pub has_read : (names : List (List ℕ)) (m : Monomial) (tail : List ℕ) (k : ℕ) (values text : List ℕ) (at : ℕ) (name : List ℕ) (r : ℕ × ℕ) (h : HasRead names m tail k values (drop at text)) → k < length values
    → IsPower names m tail k name h.bare (rest_at at text) r → HasRead names m tail (k + 1) (set values k r.0) (drop (at + r.1) text)
has_read names m tail k values text at name r h l p = subst (λ n. HasRead names m tail n (set values k r.0) (drop (at + r.1) text)) (sym (add-one k)) (record {
  bare = stays_bare h.bare (power_text name (get_or m.exponents k 0));
  left = drop_rest at r.1 text ∙ p.1;
  done = λ j b. by j b (ℕ_discrete j k);
})
  where
    by : (j : ℕ) → j < suc k → Dec (j ≡ k) → get_or (set values k r.0) j 0 ≡ get_or m.exponents j 0
    by j b (yes e) = ap (λ i. get_or (set values k r.0) i 0) e ∙ get_or-set_same values k r.0 0 l ∙ p.0 ∙ ap (λ i. get_or m.exponents i 0) (sym e)
    by j b (no n) = get_or-set_other values k j r.0 0 n ∙ h.done j (below j k b n)
      where
        below : (j k : ℕ) → j < suc k → j ≢ k → j < k
        below j k b n = omega arith

pub zeros_kept : (k : ℕ) (values : List ℕ) (e : ℕ) → ((j : ℕ) → k ≤ j → get_or values j 0 ≡ 0) → (j : ℕ) → k + 1 ≤ j → get_or (set values k e) j 0 ≡ 0
zeros_kept k values e h j b = get_or-set_other values k j e 0 (λ q. omega arith) ∙ h j (omega arith)

pub of_zeros : (s : Signature) (values : List ℕ) (k : ℕ) → length values ≡ 12 → k ≤ length s.kinds → ((j : ℕ) → k ≤ j → get_or values j 0 ≡ 0) → MonomialOf s (monomial_of values)
of_zeros s values k t b h x l = exponent_is (monomial_of values) x ∙ ap (λ es. get_or es x 0) (twelve_numbers values t) ∙ h x (omega arith)

pub values_are : (s : Signature) (names : List (List ℕ)) (m : Monomial) (tail : List ℕ) (k : ℕ) (values rest : List ℕ) → length values ≡ 12 → length s.kinds ≤ k → MonomialOf s m → ((j : ℕ) → k ≤ j → get_or values j 0 ≡ 0) → HasRead names m tail k values rest → values ≡ m.exponents
values_are s names m tail k values rest t b o z h = ext_get_or 0 values m.exponents (t ∙ sym m.twelve) (λ j l. by j (cases_lt j k))
  where
    by : (j : ℕ) → (j < k) ⊎ (k ≤ j) → get_or values j 0 ≡ get_or m.exponents j 0
    by j (inl l) = h.done j l
    by j (inr l) = z j l ∙ sym (sym (exponent_is m j) ∙ o j (omega arith))

pub monomial_is : (m : Monomial) (values : List ℕ) → values ≡ m.exponents → monomial_of values ≡ m
monomial_is m values e = ap monomial_of e ∙ seen_again m

pub sum_is : (m : Monomial) (values : List ℕ) → values ≡ m.exponents → degree m ≤ 32767 → sum values ≤ 32767
unfolding degree
sum_is m values e h = subst (λ es. sum es ≤ 32767) (sym e) h

pub nothing_left : (names : List (List ℕ)) (m : Monomial) (tail : List ℕ) (k : ℕ) (values rest : List ℕ) → length names ≤ k → HasRead names m tail k values rest → rest ≡ tail
nothing_left names m tail k values rest b h = h.left ∙ ap (λ fs. starred h.bare fs ++ tail) (factor_texts-none k names (drop k m.exponents) b)

pub small_degree : (values : List ℕ) → length values ≡ 12 → sum values ≤ 32767 → degree (monomial_of values) ≤ 32767
unfolding degree
small_degree values t h = subst (λ es. sum es ≤ 32767) (sym (twelve_numbers values t)) h
