-- Where a coordinate is lowered, what passing the other coordinates makes is lowered alike.
--     lower_comm, fallen_comm     lowering at different variables commutes
--     TermList                    monomials with numbers
--     passed-lowered              terms of lowered monomials are the lowered terms
use Rattle.std.proofs.Common.{◌≡◌, ◌≢◌, ℕ, ◌+◌, ◌-◌, ◌<◌, ◌≤◌, min, List, [], ◌∷◌, map, refl, sym, ap, ◌∙◌, subst, arith}
use Rattle.std.proofs.lemmas.List.{set_past}
use native.Mathlib.Decide.{dec_lt, ℕ_discrete}
use Rattle.ore_algebra.specs.Domain.{Domain}
use Rattle.ore_monomial.specs.Monomial.{Monomial, exponent, with_exponent, lower, product}
use Rattle.ore_monomial.specs.Signature.{Signature, kind_at}
use Rattle.ore_monomial.specs.Passing.{numbers_to}
use Rattle.ore_monomial.proofs.Monomials.{same_list, same_exponents, exponent-same, exponent-other, exponent-product, with_comm}
use Rattle.ore_commute.specs.ClosedForm.{fallen, step_on, total_step, number, lowered, shifted_terms, axis_terms, passed}
use Rattle.ore_commute.proofs.ClosedForm.{step-kept}
use Rattle.ore_commute.proofs.Distinct.{IsAway}
use Rattle.ore_commute.proofs.Lists.{map_map, map-flat_map, flat_same}

pub with_past : (x e : ℕ) (m : Monomial) → 12 ≤ x → with_exponent x e m ≡ m
unfolding with_exponent
with_past x e m h = same_list _ m (set_past m.exponents x e (subst (λ n. n ≤ x) (sym m.twelve) h))

-- y past the variables, or apart from x
pub lower_comm : (x y j i : ℕ) (m : Monomial) → (y < 12 → x ≢ y) → lower x j (lower y i m) ≡ lower y i (lower x j m)
lower_comm x y j i m h = by (dec_lt y 12)
  where
    by : Dec (y < 12) → lower x j (lower y i m) ≡ lower y i (lower x j m)
    by (yes l) =
        ap (λ e. with_exponent x (e - j) (lower y i m)) (exponent-other y x (exponent m y - i) m (h l))
        ∙ with_comm y x (exponent m y - i) (exponent m x - j) m (λ e. h l (sym e))
        ∙ ap (λ e. with_exponent y (e - i) (lower x j m)) (sym (exponent-other x y (exponent m x - j) m (λ e. h l (sym e))))
    by (no n) = ap (lower x j) (with_past y _ m (omega arith)) ∙ sym (with_past y _ _ (omega arith))

record AreFour (t d x y : ℕ) : Type 0 where
  tx : t ≢ x
  ty : y < 12 → t ≢ y
  dx : d < 12 → d ≢ x
  dy : d < 12 → d ≢ y

fallen_comm : (t d x y k j p q : ℕ) (m : Monomial) → AreFour t d x y → fallen x y p q (fallen t d k j m) ≡ fallen t d k j (fallen x y p q m)
fallen_comm t d x y k j p q m f =
    ap (lower x (p + q)) (sym (lower_comm t y (k + j) p (lower d k m) f.ty) ∙ ap (lower t (k + j)) (lower_comm y d p k m (λ l e. f.dy l (sym e))))
    ∙ lower_comm x t (p + q) (k + j) (lower d k (lower y p m)) (λ l e. f.tx (sym e))
    ∙ ap (lower t (k + j)) (lower_comm x d (p + q) k (lower y p m) (λ l e. f.dx l (sym e)))

-- ---- the product of the rest

product-fallen : (t d k j : ℕ) (m n : Monomial) → t < 12 → t ≢ d → k ≤ exponent m d → k + j ≤ exponent n t
    → product (lower d k m) (with_exponent t (exponent n t - k - j) n) ≡ fallen t d k j (product m n)
product-fallen t d k j m n tl td kl jl = same_exponents _ _ (λ x xl. at x xl (ℕ_discrete x t) (ℕ_discrete x d))
  where
    at : (x : ℕ) → x < 12 → Dec (x ≡ t) → Dec (x ≡ d) → exponent (product (lower d k m) (with_exponent t (exponent n t - k - j) n)) x ≡ exponent (fallen t d k j (product m n)) x
    at x xl (yes e) q = subst (λ y. exponent (product (lower d k m) (with_exponent t (exponent n t - k - j) n)) y ≡ exponent (fallen t d k j (product m n)) y) (sym e)
        (let a = exponent-product (lower d k m) (with_exponent t (exponent n t - k - j) n) t in
        let b = exponent-other d t (exponent m d - k) m td in
        let c = exponent-same t (exponent n t - k - j) n tl in
        let f = exponent-same t (exponent (lower d k (product m n)) t - (k + j)) (lower d k (product m n)) tl in
        let g = exponent-other d t (exponent (product m n) d - k) (product m n) td in
        let h = exponent-product m n t in omega arith)
    at x xl (no r) (yes e) = subst (λ y. y < 12 → y ≢ t → exponent (product (lower d k m) (with_exponent t (exponent n t - k - j) n)) y ≡ exponent (fallen t d k j (product m n)) y) (sym e)
        (λ dl dt.
        let a = exponent-product (lower d k m) (with_exponent t (exponent n t - k - j) n) d in
        let b = exponent-same d (exponent m d - k) m dl in
        let c = exponent-other t d (exponent n t - k - j) n dt in
        let f = exponent-other t d (exponent (lower d k (product m n)) t - (k + j)) (lower d k (product m n)) dt in
        let g = exponent-same d (exponent (product m n) d - k) (product m n) dl in
        let h = exponent-product m n d in omega arith) xl r
    at x xl (no r) (no s) =
        let a = exponent-product (lower d k m) (with_exponent t (exponent n t - k - j) n) x in
        let b = exponent-other d x (exponent m d - k) m s in
        let c = exponent-other t x (exponent n t - k - j) n r in
        let f = exponent-other t x (exponent (lower d k (product m n)) t - (k + j)) (lower d k (product m n)) r in
        let g = exponent-other d x (exponent (product m n) d - k) (product m n) s in
        let h = exponent-product m n x in omega arith

-- ---- the terms that passing makes

module _ (K : Domain) where
  abbrev pub TermList : Type 0
  TermList = List (Monomial × K.Number)

  fallen_term : ℕ → ℕ → ℕ → ℕ → Monomial × K.Number → Monomial × K.Number
  fallen_term t d k j u = (fallen t d k j u.0, u.1)

  lowered-fallen : (z : K.Number) (t d k j : ℕ) (p : ℕ × ℕ) (i q : ℕ) (us : TermList) → AreFour t d p.0 p.1
      → lowered K z p i q (map (fallen_term t d k j) us) ≡ map (fallen_term t d k j) (lowered K z p i q us)
  unfolding fallen_term
  lowered-fallen z t d k j p i q us f =
      elim (K.discrete z K.zero) as (λ (e : Dec (z ≡ K.zero)).
      ◌≡◌ {A = TermList} (elim e [ yes h ↦ [] | no h ↦ map (λ (u : Monomial × K.Number). (fallen p.0 p.1 i q u.0, K.times z u.1)) (map (fallen_term t d k j) us) ])
      (map (fallen_term t d k j) (elim e [ yes h ↦ [] | no h ↦ map (λ (u : Monomial × K.Number). (fallen p.0 p.1 i q u.0, K.times z u.1)) us ]))) [
        | yes h ↦ refl
        | no h ↦ map_map _ _ us ∙ (λ l. map (λ (u : Monomial × K.Number). (fallen_comm t d p.0 p.1 k j i q u.0 f l, K.times z u.1)) us) ∙ sym (map_map _ _ us)
      ]

  axis_terms-fallen : (h : K.Number) (p : ℕ × ℕ) (c a t d k j : ℕ) (us : TermList) → AreFour t d p.0 p.1
      → axis_terms K h p c a (map (fallen_term t d k j) us) ≡ map (fallen_term t d k j) (axis_terms K h p c a us)
  unfolding axis_terms shifted_terms
  axis_terms-fallen h p c a t d k j us f = sym (
      map-flat_map _ _ (numbers_to (min a c))
      ∙ flat_same _ _ (numbers_to (min a c)) (λ i. map-flat_map _ _ (numbers_to (a - i))
      ∙ flat_same _ _ (numbers_to (a - i)) (λ q. sym (lowered-fallen (number K h c a i q) t d k j p i q us f))))

module _ (K : Domain) (s : Signature) where
  -- what is asked of a coordinate t and its differential operator d, where the coordinates ts are passed before
  pub record IsApart (t d : ℕ) (ts : List (ℕ × ℕ)) : Type 0 where
    pub within : t < 12
    pub own : t ≢ d
    pub coordinate : IsAway t ts
    pub operator : d < 12 → IsAway d ts
    pub straight : (x : ℕ) → step_on K x (kind_at s d) ≡ K.zero

  rest_apart : (t d : ℕ) (p : ℕ × ℕ) (ts : List (ℕ × ℕ)) → IsApart t d (p ∷ ts) → IsApart t d ts
  rest_apart t d p ts h = record { within = h.within; own = h.own; coordinate = h.coordinate.2; operator = λ l. (h.operator l).2; straight = h.straight }

  four : (t d : ℕ) (p : ℕ × ℕ) (ts : List (ℕ × ℕ)) → IsApart t d (p ∷ ts) → AreFour t d p.0 p.1
  four t d p ts h = record { tx = h.coordinate.0; ty = λ l. h.coordinate.1; dx = λ l. (h.operator l).0; dy = λ l. (h.operator l).1 }

  exponent-lower : (d y k : ℕ) (m : Monomial) → (d < 12 → d ≢ y) → exponent (lower d k m) y ≡ exponent m y
  exponent-lower d y k m h = by (dec_lt d 12)
    where
      by : Dec (d < 12) → exponent (lower d k m) y ≡ exponent m y
      by (yes l) = exponent-other d y (exponent m d - k) m (λ e. h l (sym e))
      by (no n) = ap (λ q. exponent q y) (with_past d _ m (omega arith))

  pub passed-lowered : (t d k j : ℕ) (m n : Monomial) (ts : List (ℕ × ℕ)) → IsApart t d ts → k ≤ exponent m d → k + j ≤ exponent n t
      → passed K s ts (lower d k m) (with_exponent t (exponent n t - k - j) n) ≡ map (λ u. (fallen t d k j u.0, u.1)) (passed K s ts m n)
  unfolding passed fallen_term
  passed-lowered t d k j m n [] h kl jl = λ i. (product-fallen t d k j m n h.within h.own kl jl i, K.one) ∷ []
  passed-lowered t d k j m n (p ∷ ts) h kl jl =
      (λ i. axis_terms K (step-kept K s p.0 d (exponent m d - k) m (h.straight p.0) i) p
      (exponent-lower d p.1 k m (λ l. (h.operator l).1) i)
      (exponent-other t p.0 (exponent n t - k - j) n (λ e. h.coordinate.0 (sym e)) i)
      (passed-lowered t d k j m n ts (rest_apart t d p ts h) kl jl i))
      ∙ axis_terms-fallen K (total_step K s p.0 m) p (exponent m p.1) (exponent n p.0) t d k j (passed K s ts m n) (four t d p ts h)
