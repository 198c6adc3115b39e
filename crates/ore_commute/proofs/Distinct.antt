-- No two terms of the closed form have one monomial.
--     keys                   the monomials of the flat form, in its order
--     IsAway, AreSpread      a variable is none of these; coordinates and operators are all different
--     keys_kept              a variable that no pair names keeps the sum of its exponents
--     flat_apart             no two terms of the flat form have one monomial
use Rattle.std.proofs.Common.{◌≡◌, ◌≢◌, inl, inr, ℕ, ◌+◌, ◌-◌, ◌<◌, List, [], ◌∷◌, map, refl, sym, ap, ◌∙◌, subst, arith}
use Rattle.ore_commute.proofs.Lists.{map-flat_map, flat_same}
use Rattle.std.specs.List.{flat_map}
use native.Mathlib.Decide.{dec_lt}
use Rattle.ore_algebra.specs.Domain.{Domain}
use Rattle.ore_monomial.specs.Monomial.{Monomial, exponent, with_exponent, lower, product}
use Rattle.ore_monomial.specs.Signature.{Signature}
use Rattle.ore_monomial.specs.Passing.{numbers_to}
use Rattle.ore_monomial.proofs.Monomials.{exponent-other, exponent-same, exponent-product, exponent_past}
use Rattle.ore_algebra.proofs.Solve.{In, AreDistinct}
use Rattle.ore_monomial.proofs.Box.{numbers_to_small, apart-numbers_to, In-unflat, apart-flat_map}
use Rattle.ore_commute.proofs.FlatForm.{flat}

-- the monomials of the closed form, in its order
pub keys : List (ℕ × ℕ) → Monomial → Monomial → List Monomial
keys [] m n = product m n ∷ []
keys (p ∷ ts) m n = flat_map (λ k. flat_map (λ j. keys ts (lower p.1 k m) (with_exponent p.0 (exponent n p.0 - k - j) n)) (numbers_to (exponent n p.0 - k))) (numbers_to (exponent m p.1))

abbrev pub IsAway : ℕ → List (ℕ × ℕ) → Type 0
IsAway y [] = Unit {0}
IsAway y (p ∷ ts) = (y ≢ p.0) × (y ≢ p.1) × IsAway y ts

-- coordinates and differentials are all different
abbrev pub AreSpread : List (ℕ × ℕ) → Type 0
AreSpread [] = Unit {0}
AreSpread (p ∷ ts) = (p.0 < 12) × (p.0 ≢ p.1) × IsAway p.0 ts × (p.1 < 12 → IsAway p.1 ts) × AreSpread ts

-- a variable that no pair names keeps the sum of its exponents
pub keys_kept : (ts : List (ℕ × ℕ)) (m n u : Monomial) (y : ℕ) → IsAway y ts → In u (keys ts m n) → exponent u y ≡ exponent m y + exponent n y
unfolding keys
keys_kept [] m n u y away (inl e) = ap (λ q. exponent q y) e ∙ exponent-product m n y
keys_kept [] m n u y away (inr h) = absurd h
keys_kept (p ∷ ts) m n u y away h =
    let a = exponent n p.0 in
    let r = In-unflat (λ k. flat_map (λ j. keys ts (lower p.1 k m) (with_exponent p.0 (a - k - j) n)) (numbers_to (a - k))) u (numbers_to (exponent m p.1)) h in
    let q = In-unflat (λ j. keys ts (lower p.1 r.0 m) (with_exponent p.0 (a - r.0 - j) n)) u (numbers_to (a - r.0)) r.2 in
    keys_kept ts (lower p.1 r.0 m) (with_exponent p.0 (a - r.0 - q.0) n) u y away.2 q.2
    ∙ (λ i. exponent-other p.1 y (exponent m p.1 - r.0) m away.1 i + exponent-other p.0 y (a - r.0 - q.0) n away.0 i)

module _ (p : ℕ × ℕ) (ts : List (ℕ × ℕ)) (m n : Monomial) where
  abbrev inner : ℕ → ℕ → List Monomial
  inner k j = keys ts (lower p.1 k m) (with_exponent p.0 (exponent n p.0 - k - j) n)

  abbrev outer : ℕ → List Monomial
  outer k = flat_map (inner k) (numbers_to (exponent n p.0 - k))

  at_coordinate : AreSpread (p ∷ ts) → (k j : ℕ) (u : Monomial) → In u (inner k j) → exponent u p.0 ≡ exponent m p.0 + (exponent n p.0 - k - j)
  at_coordinate spread k j u h =
      keys_kept ts (lower p.1 k m) (with_exponent p.0 (exponent n p.0 - k - j) n) u p.0 spread.2 h
      ∙ (λ i. exponent-other p.1 p.0 (exponent m p.1 - k) m spread.1 i + exponent-same p.0 (exponent n p.0 - k - j) n spread.0 i)

  at_differential : AreSpread (p ∷ ts) → p.1 < 12 → (k j : ℕ) (u : Monomial) → In u (inner k j) → exponent u p.1 ≡ (exponent m p.1 - k) + exponent n p.1
  at_differential spread l k j u h =
      keys_kept ts (lower p.1 k m) (with_exponent p.0 (exponent n p.0 - k - j) n) u p.1 (spread.3 l) h
      ∙ (λ i. exponent-same p.1 (exponent m p.1 - k) m l i + exponent-other p.0 p.1 (exponent n p.0 - k - j) n (λ e. spread.1 (sym e)) i)

  same_drop : AreSpread (p ∷ ts) → (k i j : ℕ) (u : Monomial) → In i (numbers_to (exponent n p.0 - k)) → In j (numbers_to (exponent n p.0 - k)) → In u (inner k i) → In u (inner k j) → i ≡ j
  same_drop spread k i j u hi hj a b =
      let x = at_coordinate spread k i u a in let y = at_coordinate spread k j u b in
      let li = numbers_to_small _ i hi in let lj = numbers_to_small _ j hj in omega arith

  same_spent : AreSpread (p ∷ ts) → (k l : ℕ) (u : Monomial) → In k (numbers_to (exponent m p.1)) → In l (numbers_to (exponent m p.1)) → In u (outer k) → In u (outer l) → k ≡ l
  same_spent spread k l u hk hl a b = by (dec_lt p.1 12)
    where
      by : Dec (p.1 < 12) → k ≡ l
      by (yes d) =
          let q = In-unflat (inner k) u (numbers_to (exponent n p.0 - k)) a in let r = In-unflat (inner l) u (numbers_to (exponent n p.0 - l)) b in
          let x = at_differential spread d k q.0 u q.2 in let y = at_differential spread d l r.0 u r.2 in
          let lk = numbers_to_small _ k hk in let ll = numbers_to_small _ l hl in omega arith
      by (no n') = let z = exponent_past p.1 m (omega arith) in let lk = numbers_to_small _ k hk in let ll = numbers_to_small _ l hl in omega arith

pub keys_apart : (ts : List (ℕ × ℕ)) → AreSpread ts → (m n : Monomial) → AreDistinct (keys ts m n)
unfolding keys
keys_apart [] spread m n = (λ h. h, tt)
keys_apart (p ∷ ts) spread m n =
    apart-flat_map (outer p ts m n) (numbers_to (exponent m p.1)) (apart-numbers_to (exponent m p.1))
    (λ k h. apart-flat_map (inner p ts m n k) (numbers_to (exponent n p.0 - k)) (apart-numbers_to (exponent n p.0 - k))
    (λ j l. keys_apart ts spread.4 (lower p.1 k m) (with_exponent p.0 (exponent n p.0 - k - j) n))
    (λ i j u. same_drop p ts m n spread k i j u))
    (λ k l u. same_spent p ts m n spread k l u)

-- the closed form's monomials are these keys
module _ (K : Domain) (s : Signature) where
  first_scaled : (k : K.Number) (us : List (Monomial × K.Number)) → map (λ (v : Monomial × K.Number). v.0) (map (λ (u : Monomial × K.Number). (u.0, K.times k u.1)) us) ≡ map (λ (v : Monomial × K.Number). v.0) us
  first_scaled k [] = refl
  first_scaled k (u ∷ us) = ap (λ ys. u.0 ∷ ys) (first_scaled k us)

  pub keys_of_flat : (ts : List (ℕ × ℕ)) (m n : Monomial) → map (λ (v : Monomial × K.Number). v.0) (flat K s ts m n) ≡ keys ts m n
  unfolding keys flat
  keys_of_flat [] m n = refl
  keys_of_flat (p ∷ ts) m n =
      map-flat_map _ _ (numbers_to (exponent m p.1))
      ∙ flat_same _ _ (numbers_to (exponent m p.1)) (λ k. map-flat_map _ _ (numbers_to (exponent n p.0 - k))
      ∙ flat_same _ _ (numbers_to (exponent n p.0 - k)) (λ j. first_scaled _ (flat K s ts (lower p.1 k m) (with_exponent p.0 (exponent n p.0 - k - j) n)) ∙ keys_of_flat ts (lower p.1 k m) (with_exponent p.0 (exponent n p.0 - k - j) n)))

  -- no two terms of the closed form have one monomial
  pub flat_apart : (ts : List (ℕ × ℕ)) → AreSpread ts → (m n : Monomial) → AreDistinct (map (λ (v : Monomial × K.Number). v.0) (flat K s ts m n))
  flat_apart ts spread m n = subst AreDistinct (sym (keys_of_flat ts m n)) (keys_apart ts spread m n)
