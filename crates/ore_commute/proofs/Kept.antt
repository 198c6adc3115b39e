-- The closed form is the letter rule, with its zeros dropped.
--     nonzero_terms    the terms of a list whose numbers aren't zero
--     closed_form_is   the closed form's terms make the product of two monomials
--     closed_form_apart, closed_form_numbers   no two of them have one monomial, and no number is zero
use Rattle.std.proofs.Common.{◌≡◌, ◌≢◌, inl, inr, ℕ, zero, suc, ◌-◌, ◌*◌, ◌<◌, ◌≤◌, Bool, true, false, cond, List, [], ◌∷◌, ◌++◌, map, refl, sym, ap, ◌∙◌, subst, true≢false, arith}
use Rattle.std.specs.List.{flat_map}
use native.Mathlib.Decide.{dec_lt, dec_le}
use Rattle.ore_algebra.specs.Domain.{Domain}
use Rattle.ore_algebra.specs.Ring.{of_nat, power}
use Rattle.ore_algebra.specs.Free.{plus, single, collect}
use Rattle.ore_algebra.proofs.DomainLaws as Numbers
use Rattle.ore_algebra.proofs.Linear
use Rattle.ore_algebra.proofs.Solve.{In, AreDistinct}
use Rattle.ore_monomial.specs.Monomial.{Monomial, exponent, with_exponent, lower, product, plain_cmp}
use Rattle.ore_monomial.specs.Signature.{Signature, kind_at, is_coordinate, is_differential_on}
use Rattle.ore_monomial.specs.Passing.{choose, numbers_to}
use Rattle.ore_monomial.specs.LetterRule.{monomial_times}
use Rattle.ore_monomial.specs.declared.signature.VarKind.{VarKind}
use Rattle.ore_monomial.specs.declared.signature.VarKind.TheVariants.{Coordinate, Constant, Plain, Differential, Shift, Delay}
use Rattle.ore_monomial.specs.Numbers.{AreNonZero}
use Rattle.ore_monomial.proofs.Letters.{one_term}
use Rattle.ore_monomial.proofs.Box.{numbers_to_small}
use Rattle.ore_monomial.proofs.Monomials.{plain_cmp_total, plain_cmp_apart}
use Rattle.ore_monomial.proofs.Operators
use Rattle.ore_commute.specs.ClosedForm.{falling_factorial, fallen, step_on, total_step, number, lowered, shifted_terms, axis_terms, passed, closed_form, axes, axes_below, differential_of}
use Rattle.ore_commute.proofs.ClosedForm.{falling_above}
use Rattle.ore_commute.proofs.FlatForm.{flat}
use Rattle.ore_commute.proofs.Distinct.{AreSpread}
use Rattle.ore_commute.proofs.Axes.{are_spread, found, kind_past, pass_form, pass_apart}
use Rattle.ore_commute.proofs.Lists.{map_map, flat_same_in, flat_none, flat_map_cut}
use Rattle.ore_commute.proofs.Lowering.{TermList, IsApart, passed-lowered}

module _ (K : Domain) where
  abbrev keep : (t : Monomial × K.Number) → Dec (t.1 ≡ K.zero) → TermList K → TermList K
  keep t (yes e) ts = ts
  keep t (no n) ts = t ∷ ts

  unfoldable pub nonzero_terms : TermList K → TermList K
  nonzero_terms [] = []
  nonzero_terms (t ∷ ts) = keep t (K.discrete t.1 K.zero) (nonzero_terms ts)

  collect-kept : (ts : TermList K) → collect K plain_cmp (nonzero_terms ts) ≡ collect K plain_cmp ts
  unfolding nonzero_terms
  collect-kept [] = refl
  collect-kept (t ∷ ts) = by (K.discrete t.1 K.zero) (collect-kept ts)
    where
      by : (d : Dec (t.1 ≡ K.zero)) → collect K plain_cmp (nonzero_terms ts) ≡ collect K plain_cmp ts → collect K plain_cmp (keep t d (nonzero_terms ts)) ≡ collect K plain_cmp (t ∷ ts)
      by (yes e) h = h ∙ sym (Linear.collect_more K plain_cmp_total plain_cmp_apart t.0 t.1 ts ∙ ap (λ k. plus K plain_cmp (single K plain_cmp t.0 k) (collect K plain_cmp ts)) e
          ∙ ap (λ f. plus K plain_cmp f (collect K plain_cmp ts)) (Linear.single_zero K plain_cmp_total plain_cmp_apart t.0) ∙ Operators.zero-plus K _)
      by (no n) h = Linear.collect_more K plain_cmp_total plain_cmp_apart t.0 t.1 (nonzero_terms ts) ∙ ap (plus K plain_cmp (single K plain_cmp t.0 t.1)) h ∙ sym (Linear.collect_more K plain_cmp_total plain_cmp_apart t.0 t.1 ts)

  kept-append : (ts us : TermList K) → nonzero_terms (ts ++ us) ≡ nonzero_terms ts ++ nonzero_terms us
  unfolding nonzero_terms
  kept-append [] us = refl
  kept-append (t ∷ ts) us = by (K.discrete t.1 K.zero) (kept-append ts us)
    where
      by : (d : Dec (t.1 ≡ K.zero)) → nonzero_terms (ts ++ us) ≡ nonzero_terms ts ++ nonzero_terms us → keep t d (nonzero_terms (ts ++ us)) ≡ keep t d (nonzero_terms ts) ++ nonzero_terms us
      by (yes e) h = h
      by (no n) h = ap (λ vs. t ∷ vs) h

  kept-flat_map : {A : Type 0} (f : A → TermList K) (xs : List A) → nonzero_terms (flat_map f xs) ≡ flat_map (λ x. nonzero_terms (f x)) xs
  unfolding nonzero_terms
  kept-flat_map f [] = refl
  kept-flat_map f (x ∷ xs) = kept-append (f x) (flat_map f xs) ∙ ap (λ ys. nonzero_terms (f x) ++ ys) (kept-flat_map f xs)

  pub kept_among : (m : Monomial) (us : TermList K) → In m (map (λ (t : Monomial × K.Number). t.0) (nonzero_terms us)) → In m (map (λ (t : Monomial × K.Number). t.0) us)
  unfolding nonzero_terms
  kept_among m [] i = i
  kept_among m (u ∷ us) i = split (K.discrete u.1 K.zero) i (kept_among m us)
    where
      split : (d : Dec (u.1 ≡ K.zero)) → In m (map (λ (t : Monomial × K.Number). t.0) (keep u d (nonzero_terms us))) → (In m (map (λ (t : Monomial × K.Number). t.0) (nonzero_terms us)) → In m (map (λ (t : Monomial × K.Number). t.0) us)) → In m (map (λ (t : Monomial × K.Number). t.0) (u ∷ us))
      split (yes e) i rest = inr (rest i)
      split (no n) (inl e) rest = inl e
      split (no n) (inr i) rest = inr (rest i)

  abbrev scaled : K.Number → TermList K → TermList K
  scaled z us = map (λ u. (u.0, K.times z u.1)) us

  abbrev scaled_unless : (z : K.Number) → Dec (z ≡ K.zero) → TermList K → TermList K
  scaled_unless z (yes e) us = []
  scaled_unless z (no n) us = scaled z us

  kept-scaled : (z : K.Number) (us : TermList K) → nonzero_terms (scaled z us) ≡ scaled_unless z (K.discrete z K.zero) (nonzero_terms us)
  unfolding nonzero_terms
  kept-scaled z us = by (K.discrete z K.zero) us
    where
      zero_scaled : (u : Monomial × K.Number) → z ≡ K.zero → (d : Dec (K.times z u.1 ≡ K.zero)) (vs : TermList K) → keep (u.0, K.times z u.1) d vs ≡ vs
      zero_scaled u e (yes h) vs = refl
      zero_scaled u e (no n) vs = absurd (n (ap (λ y. K.times y u.1) e ∙ Numbers.zero_times K u.1))

      apart_scaled : (u : Monomial × K.Number) → z ≢ K.zero → (d : Dec (K.times z u.1 ≡ K.zero)) (e : Dec (u.1 ≡ K.zero)) (vs : TermList K) → keep (u.0, K.times z u.1) d (scaled z vs) ≡ scaled z (keep u e vs)
      apart_scaled u n (yes h) (yes e) vs = refl
      apart_scaled u n (no k) (no m) vs = refl
      apart_scaled u n (yes h) (no m) vs = absurd (K.times_apart z u.1 n m h)
      apart_scaled u n (no k) (yes e) vs = absurd (k (ap (K.times z) e ∙ Numbers.times_zero K z))

      by : (d : Dec (z ≡ K.zero)) (us : TermList K) → nonzero_terms (scaled z us) ≡ scaled_unless z d (nonzero_terms us)
      by (yes e) us = all_zero us
        where
          all_zero : (us : TermList K) → nonzero_terms (scaled z us) ≡ []
          all_zero [] = refl
          all_zero (u ∷ us) = zero_scaled u e (K.discrete (K.times z u.1) K.zero) (nonzero_terms (scaled z us)) ∙ all_zero us
      by (no n) us = each us
        where
          each : (us : TermList K) → nonzero_terms (scaled z us) ≡ scaled z (nonzero_terms us)
          each [] = refl
          each (u ∷ us) = ap (keep (u.0, K.times z u.1) (K.discrete (K.times z u.1) K.zero)) (each us) ∙ apart_scaled u n (K.discrete (K.times z u.1) K.zero) (K.discrete u.1 K.zero) (nonzero_terms us)

  -- the numbers beyond a are zero
  number_beyond : (h : K.Number) (c a k j : ℕ) → a < k → number K h c a k j ≡ K.zero
  unfolding number
  number_beyond h c a k j l =
      let e : choose c k * falling_factorial a k ≡ 0 = ap (λ n. choose c k * n) (falling_above a k l) ∙ omega arith in
      ap (λ n. K.times (of_nat K.ring n) (K.times (of_nat K.ring (choose (a - k) j)) (power K.ring h j))) e ∙ Numbers.zero_times K _

  abbrev lowered_unless : (z : K.Number) → Dec (z ≡ K.zero) → ℕ × ℕ → ℕ → ℕ → TermList K → TermList K
  lowered_unless z (yes e) p k j us = []
  lowered_unless z (no n) p k j us = map (λ u. (fallen p.0 p.1 k j u.0, K.times z u.1)) us

  lowered_is : (z : K.Number) (p : ℕ × ℕ) (k j : ℕ) (us : TermList K) → lowered K z p k j us ≡ lowered_unless z (K.discrete z K.zero) p k j us
  lowered_is z p k j us = elim (K.discrete z K.zero) as (λ (d : Dec (z ≡ K.zero)). ◌≡◌ {A = TermList K} (elim d [ yes e ↦ [] | no n ↦ map (λ (u : Monomial × K.Number). (fallen p.0 p.1 k j u.0, K.times z u.1)) us ]) (lowered_unless z d p k j us))
      [ yes e ↦ refl | no n ↦ refl ]

  pub lowered_none : (z : K.Number) (p : ℕ × ℕ) (k j : ℕ) (us : TermList K) → z ≡ K.zero → lowered K z p k j us ≡ []
  lowered_none z p k j us e = lowered_is z p k j us ∙ by (K.discrete z K.zero)
    where
      by : (d : Dec (z ≡ K.zero)) → lowered_unless z d p k j us ≡ []
      by (yes h) = refl
      by (no n) = absurd (n e)

  pub lowered_some : (z : K.Number) (p : ℕ × ℕ) (k j : ℕ) (us : TermList K) → z ≢ K.zero → lowered K z p k j us ≡ map (λ u. (fallen p.0 p.1 k j u.0, K.times z u.1)) us
  lowered_some z p k j us n = lowered_is z p k j us ∙ by (K.discrete z K.zero)
    where
      by : (d : Dec (z ≡ K.zero)) → lowered_unless z d p k j us ≡ map (λ u. (fallen p.0 p.1 k j u.0, K.times z u.1)) us
      by (yes h) = absurd (n h)
      by (no m) = refl

  scaled-lowered : (z : K.Number) (p : ℕ × ℕ) (k j : ℕ) (us : TermList K) → scaled_unless z (K.discrete z K.zero) (map (λ u. (fallen p.0 p.1 k j u.0, u.1)) us) ≡ lowered K z p k j us
  scaled-lowered z p k j us = by (K.discrete z K.zero) ∙ sym (lowered_is z p k j us)
    where
      by : (d : Dec (z ≡ K.zero)) → scaled_unless z d (map (λ u. (fallen p.0 p.1 k j u.0, u.1)) us) ≡ lowered_unless z d p k j us
      by (yes e) = refl
      by (no n) = map_map (λ u. (u.0, K.times z u.1)) (λ u. (fallen p.0 p.1 k j u.0, u.1)) us

module _ (K : Domain) (s : Signature) where
  abbrev pub AreApartAll : List (ℕ × ℕ) → Type 0
  AreApartAll [] = Unit {0}
  AreApartAll (p ∷ ts) = IsApart K s p.0 p.1 ts × AreApartAll ts

  pub kept-flat : (ts : List (ℕ × ℕ)) → AreApartAll ts → (m n : Monomial) → nonzero_terms K (flat K s ts m n) ≡ passed K s ts m n
  unfolding nonzero_terms flat passed axis_terms shifted_terms
  kept-flat [] ready m n = one (K.discrete K.one K.zero)
    where
      one : (d : Dec (K.one ≡ K.zero)) → keep K (product m n, K.one) d [] ≡ (product m n, K.one) ∷ []
      one (yes e) = absurd (K.one_apart e)
      one (no h) = refl
  kept-flat (p ∷ ts) ready m n =
      kept-flat_map K outer (numbers_to c)
      ∙ flat_same_in (λ k. nonzero_terms K (outer k)) (shifted_terms K h p c a (passed K s ts m n)) (numbers_to c) (λ k kin. kept-flat_map K (inner k) (numbers_to (a - k))
      ∙ flat_same_in (λ j. nonzero_terms K (inner k j)) (λ j. lowered K (number K h c a k j) p k j (passed K s ts m n)) (numbers_to (a - k)) (λ j jin. each k j (numbers_to_small c k kin) (numbers_to_small (a - k) j jin) (kept-flat ts ready.1) (dec_le k a)))
      ∙ flat_map_cut (shifted_terms K h p c a (passed K s ts m n)) a c (λ k l. flat_none (λ j. lowered K (number K h c a k j) p k j (passed K s ts m n)) (numbers_to (a - k)) (λ j jin. lowered_none K (number K h c a k j) p k j (passed K s ts m n) (number_beyond K h c a k j l)))
    where
      h : K.Number
      h = total_step K s p.0 m

      c : ℕ
      c = exponent m p.1

      a : ℕ
      a = exponent n p.0

      inner : ℕ → ℕ → List (Monomial × K.Number)
      inner k j = map (λ u. (u.0, K.times (number K h c a k j) u.1)) (flat K s ts (lower p.1 k m) (with_exponent p.0 (a - k - j) n))

      outer : ℕ → List (Monomial × K.Number)
      outer k = flat_map (inner k) (numbers_to (a - k))

      each : (k j : ℕ) → k ≤ c → j ≤ a - k → ((m n : Monomial) → nonzero_terms K (flat K s ts m n) ≡ passed K s ts m n) → Dec (k ≤ a) → nonzero_terms K (inner k j) ≡ lowered K (number K h c a k j) p k j (passed K s ts m n)
      each k j kc ja rest (yes l) =
          kept-scaled K (number K h c a k j) (flat K s ts (lower p.1 k m) (with_exponent p.0 (a - k - j) n))
          ∙ ap (scaled_unless K (number K h c a k j) (K.discrete (number K h c a k j) K.zero)) (rest (lower p.1 k m) (with_exponent p.0 (a - k - j) n) ∙ passed-lowered K s p.0 p.1 k j m n ts ready.0 kc (omega arith))
          ∙ scaled-lowered K (number K h c a k j) p k j (passed K s ts m n)
      each k j kc ja rest (no q) =
          let z = number_beyond K h c a k j (omega arith) in
          kept-scaled K (number K h c a k j) (flat K s ts (lower p.1 k m) (with_exponent p.0 (a - k - j) n))
          ∙ nothing (K.discrete (number K h c a k j) K.zero) z
          ∙ sym (lowered_none K (number K h c a k j) p k j (passed K s ts m n) z)
        where
          nothing : (d : Dec (number K h c a k j ≡ K.zero)) → number K h c a k j ≡ K.zero → scaled_unless K (number K h c a k j) d (nonzero_terms K (flat K s ts (lower p.1 k m) (with_exponent p.0 (a - k - j) n))) ≡ []
          nothing (yes e) z = refl
          nothing (no r) z = absurd (r z)

  -- ---- the axes of a signature

  straight : (t x : ℕ) → step_on K x (kind_at s (differential_of s t)) ≡ K.zero
  straight t x = by (dec_lt (differential_of s t) 12)
    where
      steady : (k : VarKind) → is_differential_on t k ≡ true → step_on K x k ≡ K.zero
      steady Coordinate e = refl
      steady Constant e = refl
      steady Plain e = refl
      steady (Differential on) e = refl
      steady (Shift on step) e = absurd (true≢false (sym e))
      steady (Delay on step) e = absurd (true≢false (sym e))

      by : Dec (differential_of s t < 12) → step_on K x (kind_at s (differential_of s t)) ≡ K.zero
      by (yes l) = steady (kind_at s (differential_of s t)) (found s t 12 (omega arith) l)
      by (no n) = ap (step_on K x) (kind_past s (differential_of s t) (omega arith))

  all_apart : (n : ℕ) → AreSpread (axes_below s n) → AreApartAll (axes_below s n)
  unfolding axes_below
  all_apart zero h = tt
  all_apart (suc n) h = by (is_coordinate (kind_at s n)) (all_apart n) h
    where
      by : (b : Bool) → (AreSpread (axes_below s n) → AreApartAll (axes_below s n)) → AreSpread (cond b ((n, differential_of s n) ∷ axes_below s n) (axes_below s n)) → AreApartAll (cond b ((n, differential_of s n) ∷ axes_below s n) (axes_below s n))
      by true rest h = (record { within = h.0; own = h.1; coordinate = h.2; operator = h.3; straight = straight n }, rest h.4)
      by false rest h = rest h

  pub axes_apart : (n : ℕ) → n ≤ 12 → AreApartAll (axes_below s n)
  axes_apart n h = all_apart n (are_spread K s n h)

  kept-closed_form : (m n : Monomial) → nonzero_terms K (flat K s (axes s) m n) ≡ closed_form K s m n
  unfolding closed_form axes
  kept-closed_form m n = kept-flat (axes_below s 12) (axes_apart 12 (omega arith)) m n

  pub closed_form_is : (m n : Monomial) → monomial_times K s m (one_term K n) ≡ collect K plain_cmp (closed_form K s m n)
  closed_form_is m n = pass_form K s m n ∙ sym (collect-kept K (flat K s (axes s) m n)) ∙ ap (collect K plain_cmp) (kept-closed_form m n)

  -- ---- no two terms have one monomial, and no number is zero

  kept_apart : (ts : List (Monomial × K.Number)) → AreDistinct (map (λ (t : Monomial × K.Number). t.0) ts) → AreDistinct (map (λ (t : Monomial × K.Number). t.0) (nonzero_terms K ts))
  unfolding nonzero_terms
  kept_apart [] h = tt
  kept_apart (t ∷ ts) h = by (K.discrete t.1 K.zero) (kept_apart ts h.1)
    where
      by : (d : Dec (t.1 ≡ K.zero)) → AreDistinct (map (λ (t : Monomial × K.Number). t.0) (nonzero_terms K ts)) → AreDistinct (map (λ (t : Monomial × K.Number). t.0) (keep K t d (nonzero_terms K ts)))
      by (yes e) rest = rest
      by (no n) rest = ((λ i. h.0 (kept_among K t.0 ts i)), rest)

  pub closed_form_apart : (m n : Monomial) → AreDistinct (map (λ (t : Monomial × K.Number). t.0) (closed_form K s m n))
  closed_form_apart m n = subst (λ ts. AreDistinct (map (λ (t : Monomial × K.Number). t.0) ts)) (kept-closed_form m n) (kept_apart (flat K s (axes s) m n) (pass_apart K s m n))

  kept_some : (ts : List (Monomial × K.Number)) → AreNonZero K (nonzero_terms K ts)
  unfolding nonzero_terms
  kept_some [] = tt
  kept_some (t ∷ ts) = by (K.discrete t.1 K.zero) (kept_some ts)
    where
      by : (d : Dec (t.1 ≡ K.zero)) → AreNonZero K (nonzero_terms K ts) → AreNonZero K (keep K t d (nonzero_terms K ts))
      by (yes e) rest = rest
      by (no n) rest = (n, rest)

  pub closed_form_numbers : (m n : Monomial) → AreNonZero K (closed_form K s m n)
  closed_form_numbers m n = subst (AreNonZero K) (kept-closed_form m n) (kept_some (flat K s (axes s) m n))
