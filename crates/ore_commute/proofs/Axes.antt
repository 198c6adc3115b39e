-- The axes of a signature: each coordinate with its differential, or with 12 where it has none.
--     found, complete            the differential operator that is found is one, and is found where there is one
--     one                        a coordinate has one differential operator
--     pass_form, pass_apart      the flat form over the axes is the product; its terms have different monomials
use Rattle.std.proofs.Common.{◌≡◌, ◌≢◌, ℕ, zero, suc, ◌<◌, ◌≤◌, Bool, true, false, cond, List, [], ◌∷◌, map, refl, sym, ap, ◌∙◌, subst, true≢false, arith}
use Rattle.std.proofs.lemmas.List.{get_or_past}
use borrow.Author.Tests.{eqb-true, eqb-false}
use native.Mathlib.Decide.{dec_lt, ℕ_discrete}
use Rattle.ore_algebra.specs.Domain.{Domain}
use Rattle.ore_algebra.specs.Free.{collect}
use Rattle.ore_commute.specs.ClosedForm.{differential_below, differential_of, axes_below, axes}
use Rattle.ore_monomial.specs.Monomial.{Monomial, exponent, with_exponent, plain_cmp}
use Rattle.ore_monomial.specs.Signature.{Signature, is_coordinate, is_differential_on, kind_at, coordinate_of, is_acting}
use Rattle.ore_monomial.specs.declared.signature.VarKind.{VarKind}
use Rattle.ore_monomial.specs.declared.signature.VarKind.TheVariants.{Coordinate, Constant, Plain, Differential, Shift, Delay}
use Rattle.ore_monomial.specs.LetterRule.{monomial_times}
use Rattle.ore_monomial.proofs.Monomials.{exponent-same, exponent-other}
use Rattle.ore_monomial.proofs.Letters.{one_term, rule_of}
use Rattle.ore_monomial.proofs.Commute.{rule, rule_acting, rule_other, rule_still}
use Rattle.ore_monomial.proofs.Signatures.{count_at_most_12, lawful, has_one_differential}
use Rattle.ore_commute.proofs.ClosedForm.{IsAxis, AreAxes, IsClear}
use Rattle.ore_commute.proofs.FlatForm.{flat, AreNew, IsNew, flat_form}
use Rattle.ore_algebra.proofs.Solve.{AreDistinct}
use Rattle.ore_commute.proofs.Distinct.{AreSpread, IsAway, flat_apart}

module _ (s : Signature) where
  pub kind_past : (x : ℕ) → 12 ≤ x → kind_at s x ≡ Constant
  kind_past x h = get_or_past s.kinds x Constant (let f = count_at_most_12 s in omega arith)

  -- what is found is a differential of t, or is 12
  pub found : (t n : ℕ) → n ≤ 12 → differential_below s t n < 12 → is_differential_on t (kind_at s (differential_below s t n)) ≡ true
  unfolding differential_below
  found t zero h l = absurd (omega arith)
  found t (suc n) h l = by (is_differential_on t (kind_at s n)) refl l (found t n (omega arith))
    where
      by : (b : Bool) → is_differential_on t (kind_at s n) ≡ b → cond b n (differential_below s t n) < 12 → (differential_below s t n < 12 → is_differential_on t (kind_at s (differential_below s t n)) ≡ true) → is_differential_on t (kind_at s (cond b n (differential_below s t n))) ≡ true
      by true e l rest = e
      by false e l rest = rest l

  -- where there is one, one is found
  pub complete : (t n x : ℕ) → n ≤ 12 → x < n → is_differential_on t (kind_at s x) ≡ true → differential_below s t n < 12
  unfolding differential_below
  complete t zero x h l e = absurd (omega arith)
  complete t (suc n) x h l e = by (is_differential_on t (kind_at s n)) refl (λ k. complete t n x (omega arith) k e)
    where
      by : (b : Bool) → is_differential_on t (kind_at s n) ≡ b → (x < n → differential_below s t n < 12) → cond b n (differential_below s t n) < 12
      by true p rest = omega arith
      by false p rest = rest (below (ℕ_discrete x n))
        where
          below : Dec (x ≡ n) → x < n
          below (yes q) = absurd (true≢false (sym e ∙ ap (λ y. is_differential_on t (kind_at s y)) q ∙ p))
          below (no q) = omega arith

differential_is : (k : VarKind) (t : ℕ) → is_differential_on t k ≡ true → k ≡ Differential t
differential_is Coordinate t h = absurd (true≢false (sym h))
differential_is Constant t h = absurd (true≢false (sym h))
differential_is Plain t h = absurd (true≢false (sym h))
differential_is (Differential on) t h = ap Differential (eqb-true on t h)
differential_is (Shift on step) t h = absurd (true≢false (sym h))
differential_is (Delay on step) t h = absurd (true≢false (sym h))

pub one : (s : Signature) (t x y : ℕ) → is_differential_on t (kind_at s x) ≡ true → is_differential_on t (kind_at s y) ≡ true → x ≡ y
one s t x y a b = has_one_differential s t x y (differential_is _ t a) (differential_is _ t b)

pub coordinate_is : (k : VarKind) → is_coordinate k ≡ true → k ≡ Coordinate
coordinate_is Coordinate e = refl
coordinate_is Constant e = absurd (true≢false (sym e))
coordinate_is Plain e = absurd (true≢false (sym e))
coordinate_is (Differential on) e = absurd (true≢false (sym e))
coordinate_is (Shift on step) e = absurd (true≢false (sym e))
coordinate_is (Delay on step) e = absurd (true≢false (sym e))

-- one letter is the differential of one coordinate
one_coordinate : (k : VarKind) (t u : ℕ) → is_differential_on t k ≡ true → is_differential_on u k ≡ true → t ≡ u
one_coordinate Coordinate t u a b = absurd (true≢false (sym a))
one_coordinate Constant t u a b = absurd (true≢false (sym a))
one_coordinate Plain t u a b = absurd (true≢false (sym a))
one_coordinate (Differential on) t u a b = sym (eqb-true on t a) ∙ eqb-true on u b
one_coordinate (Shift on step) t u a b = absurd (true≢false (sym a))
one_coordinate (Delay on step) t u a b = absurd (true≢false (sym a))

module _ (K : Domain) where
  beta_none : (k : VarKind) (t : ℕ) → coordinate_of k ≡ t → is_differential_on t k ≡ false → (rule_of K k).beta ≡ K.zero
  beta_none Coordinate t e h = refl
  beta_none Constant t e h = refl
  beta_none Plain t e h = refl
  beta_none (Differential on) t e h = absurd (eqb-false on t h e)
  beta_none (Shift on step) t e h = refl
  beta_none (Delay on step) t e h = refl

  differential_rule : (k : VarKind) (t : ℕ) → is_differential_on t k ≡ true → (coordinate_of k ≡ t) × ((rule_of K k).beta ≡ K.one) × ((rule_of K k).alpha ≡ K.zero)
  differential_rule Coordinate t h = absurd (true≢false (sym h))
  differential_rule Constant t h = absurd (true≢false (sym h))
  differential_rule Plain t h = absurd (true≢false (sym h))
  differential_rule (Differential on) t h = (eqb-true on t h, refl, refl)
  differential_rule (Shift on step) t h = absurd (true≢false (sym h))
  differential_rule (Delay on step) t h = absurd (true≢false (sym h))

module _ (K : Domain) (s : Signature) where
  axis_of : (t : ℕ) → t < 12 → kind_at s t ≡ Coordinate → IsAxis K s t (differential_of s t)
  axis_of t tl c = record {
    within = tl;
    still = ap is_acting c;
    only = λ x n. only x n (ℕ_discrete (coordinate_of (kind_at s x)) t) (is_differential_on t (kind_at s x)) refl;
    unit = λ l. let f = differential_rule K (kind_at s (differential_of s t)) t (found s t 12 (omega arith) l) in ap (λ r. r.beta) (at (differential_of s t) f.0) ∙ f.1;
    straight = straight (dec_lt (differential_of s t) 12);
  }
    where
      at : (x : ℕ) → coordinate_of (kind_at s x) ≡ t → rule K s x t ≡ rule_of K (kind_at s x)
      at x e = ap (rule K s x) (sym e) ∙ rule_acting K s x

      only : (x : ℕ) → x ≢ differential_of s t → Dec (coordinate_of (kind_at s x) ≡ t) → (b : Bool) → is_differential_on t (kind_at s x) ≡ b → (rule K s x t).beta ≡ K.zero
      only x n (no k) b h = ap (λ r. r.beta) (rule_other K s x t k)
      only x n (yes e) false h = ap (λ r. r.beta) (at x e) ∙ beta_none K (kind_at s x) t e h
      only x n (yes e) true h = absurd (n (one s t x (differential_of s t) h (found s t 12 (omega arith) (complete s t 12 x (omega arith) (inside (dec_lt x 12)) h))))
        where
          inside : Dec (x < 12) → x < 12
          inside (yes l) = l
          inside (no k) = absurd (true≢false (sym h ∙ ap (is_differential_on t) (kind_past s x (omega arith))))

      straight : Dec (differential_of s t < 12) → (rule K s (differential_of s t) t).alpha ≡ K.zero
      straight (yes l) = let f = differential_rule K (kind_at s (differential_of s t)) t (found s t 12 (omega arith) l) in ap (λ r. r.alpha) (at (differential_of s t) f.0) ∙ f.2
      straight (no k) = ap (λ r. r.alpha) (rule_still K s (differential_of s t) t (ap is_acting (kind_past s (differential_of s t) (omega arith))))

  are_axes : (n : ℕ) → n ≤ 12 → AreAxes K s (axes_below s n)
  unfolding axes_below
  are_axes zero h = tt
  are_axes (suc n) h = by (is_coordinate (kind_at s n)) refl (are_axes n (omega arith))
    where
      by : (b : Bool) → is_coordinate (kind_at s n) ≡ b → AreAxes K s (axes_below s n) → AreAxes K s (cond b ((n, differential_below s n 12) ∷ axes_below s n) (axes_below s n))
      by true e rest = (axis_of n (omega arith) (coordinate_is _ e), rest)
      by false e rest = rest

  -- what holds of each coordinate below n and its differential holds of the axes
  away : (y n : ℕ) → ((t : ℕ) → t < n → is_coordinate (kind_at s t) ≡ true → (y ≢ t) × (y ≢ differential_below s t 12)) → IsAway y (axes_below s n)
  unfolding axes_below
  away y zero f = tt
  away y (suc n) f = by (is_coordinate (kind_at s n)) refl (away y n (λ t l. f t (omega arith)))
    where
      by : (b : Bool) → is_coordinate (kind_at s n) ≡ b → IsAway y (axes_below s n) → IsAway y (cond b ((n, differential_below s n 12) ∷ axes_below s n) (axes_below s n))
      by true e rest = let p = f n (omega arith) e in (p.0, p.1, rest)
      by false e rest = rest

  away_new : (y : ℕ) (ts : List (ℕ × ℕ)) → IsAway y ts → IsNew K s y ts
  away_new y [] a = tt
  away_new y (p ∷ ts) a = (a.0, away_new y ts a.2)

  -- no differential is a coordinate
  pub not_both : (t u : ℕ) → u ≤ 11 → is_coordinate (kind_at s u) ≡ true → u ≢ differential_below s t 12
  not_both t u l c e =
      let f = found s t 12 (omega arith) (omega arith) in
      true≢false (sym f ∙ ap (λ x. is_differential_on t (kind_at s x)) (sym e) ∙ ap (is_differential_on t) (coordinate_is _ c))

  pub own_away : (n : ℕ) → n < 12 → is_coordinate (kind_at s n) ≡ true → IsAway n (axes_below s n)
  own_away n h c = away n n (λ t l k. (λ e. let z : n ≡ t = e in absurd (omega arith), not_both t n (omega arith) c))

  pub differential_away : (n : ℕ) → n < 12 → differential_of s n < 12 → IsAway (differential_of s n) (axes_below s n)
  differential_away n h l = away (differential_of s n) n (λ t k c. (
    λ e. not_both n t (omega arith) c (sym e),
    λ e. let z : n ≡ t = one_coordinate (kind_at s (differential_of s n)) n t (found s n 12 (omega arith) l) (ap (λ x. is_differential_on t (kind_at s x)) e ∙ found s t 12 (omega arith) (subst (λ x. x < 12) e l)) in absurd (omega arith),
  ))

  pub are_spread : (n : ℕ) → n ≤ 12 → AreSpread (axes_below s n)
  unfolding axes_below
  are_spread zero h = tt
  are_spread (suc n) h = by (is_coordinate (kind_at s n)) refl (are_spread n (omega arith))
    where
      by : (b : Bool) → is_coordinate (kind_at s n) ≡ b → AreSpread (axes_below s n) → AreSpread (cond b ((n, differential_below s n 12) ∷ axes_below s n) (axes_below s n))
      by true e rest = (omega arith, not_both n n (omega arith) e, own_away n (omega arith) e, λ l. differential_away n (omega arith) l, rest)
      by false e rest = rest

  are_new : (n : ℕ) → n ≤ 12 → AreNew K s (axes_below s n)
  unfolding axes_below
  are_new zero h = tt
  are_new (suc n) h = by (is_coordinate (kind_at s n)) refl (are_new n (omega arith))
    where
      by : (b : Bool) → is_coordinate (kind_at s n) ≡ b → AreNew K s (axes_below s n) → AreNew K s (cond b ((n, differential_below s n 12) ∷ axes_below s n) (axes_below s n))
      by true e rest = (away_new n (axes_below s n) (own_away n (omega arith) e), rest)
      by false e rest = rest

  are_clear : (n : ℕ) → n ≤ 12 → (q : Monomial) → ((x : ℕ) → is_acting (kind_at s x) ≡ true → n ≤ coordinate_of (kind_at s x) → exponent q (coordinate_of (kind_at s x)) ≡ 0) → IsClear K s (axes_below s n) q
  unfolding axes_below
  are_clear zero h q f = λ x a. f x a (omega arith)
  are_clear (suc n) h q f = by (is_coordinate (kind_at s n)) refl (λ q f. are_clear n (omega arith) q f)
    where
      by : (b : Bool) → is_coordinate (kind_at s n) ≡ b → ((q : Monomial) → ((x : ℕ) → is_acting (kind_at s x) ≡ true → n ≤ coordinate_of (kind_at s x) → exponent q (coordinate_of (kind_at s x)) ≡ 0) → IsClear K s (axes_below s n) q) → IsClear K s (cond b ((n, differential_below s n 12) ∷ axes_below s n) (axes_below s n)) q
      by true e rest = rest (with_exponent n 0 q) (λ x a l. zeroed x a l (ℕ_discrete (coordinate_of (kind_at s x)) n))
        where
          zeroed : (x : ℕ) → is_acting (kind_at s x) ≡ true → n ≤ coordinate_of (kind_at s x) → Dec (coordinate_of (kind_at s x) ≡ n) → exponent (with_exponent n 0 q) (coordinate_of (kind_at s x)) ≡ 0
          zeroed x a l (yes p) = ap (exponent (with_exponent n 0 q)) p ∙ exponent-same n 0 q (omega arith)
          zeroed x a l (no k) = exponent-other n _ 0 q k ∙ f x a (omega arith)
      by false e rest = rest q (λ x a l. kept x a l (ℕ_discrete (coordinate_of (kind_at s x)) n))
        where
          kept : (x : ℕ) → is_acting (kind_at s x) ≡ true → n ≤ coordinate_of (kind_at s x) → Dec (coordinate_of (kind_at s x) ≡ n) → exponent q (coordinate_of (kind_at s x)) ≡ 0
          kept x a l (yes p) = absurd (true≢false (ap is_coordinate (sym (lawful s x a).1) ∙ ap (λ y. is_coordinate (kind_at s y)) p ∙ e))
          kept x a l (no k) = f x a (omega arith)

  -- the product of two monomials is its closed form
  pub pass_form : (m n : Monomial) → monomial_times K s m (one_term K n) ≡ collect K plain_cmp (flat K s (axes s) m n)
  unfolding axes
  pass_form m n = flat_form K s (lawful s) (axes_below s 12) (are_axes 12 (omega arith)) (are_new 12 (omega arith)) m n
      (are_clear 12 (omega arith) n (λ x a l. absurd (outside x a (lawful s x a).0 l)))
    where
      outside : (x : ℕ) → is_acting (kind_at s x) ≡ true → coordinate_of (kind_at s x) < x → 12 ≤ coordinate_of (kind_at s x) → ⊥
      outside x a l h = true≢false (sym a ∙ ap is_acting (kind_past s x (omega arith)))

  -- and no two of its terms have one monomial
  pub pass_apart : (m n : Monomial) → AreDistinct (map (λ (v : Monomial × K.Number). v.0) (flat K s (axes s) m n))
  unfolding axes
  pass_apart m n = flat_apart K s (axes_below s 12) (are_spread 12 (omega arith)) m n
