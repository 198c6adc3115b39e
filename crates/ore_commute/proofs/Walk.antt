-- The coordinates of a product, passed one after another.
--     axes_coordinate, axes_other, axes_past     the axes below one more variable, and below all
--     passed_started, passed_room                the terms so far can be lowered
--     stops_on                                   where the terms so far are beyond the range, so are those at the end
use Rattle.std.proofs.Common.{◌≡◌, ◌≢◌, ℕ, zero, suc, ◌+◌, ◌-◌, ◌<◌, ◌≤◌, min, Bool, true, false, cond, ◌&&◌, List, [], ◌∷◌, ◌++◌, length, map, get_or, drop, add-one, refl, sym, ap, ◌∙◌, subst, arith}
use Rattle.std.specs.Prelude.{ℤ, pos, ◌*ℤ◌, nat_abs, nat_le}
use Rattle.std.specs.List.{flat_map, All}
use Rattle.std.specs.declared.result.Result.TheVariants.{Err}
use Rattle.std.proofs.lemmas.List.{get_or_past, append_assoc, append-nil}
use Rattle.std.proofs.lemmas.List.Folds.{list_all-append}
use native.Mathlib.Decide.{dec_lt}
use Rattle.ore_algebra.specs.Limits.{Cause, program}
use Rattle.ore_algebra.proofs.Integers.{integers, one_times as integer_one-times}
use Rattle.ore_algebra.proofs.Solve.{In}
use Rattle.ore_monomial.specs.Monomial.{Monomial, exponent, with_exponent, lower}
use Rattle.ore_monomial.specs.Signature.{Signature, kind_at, is_coordinate}
use Rattle.ore_monomial.specs.declared.signature.VarKind.{VarKind}
use Rattle.ore_monomial.specs.declared.signature.VarKind.TheVariants.{Coordinate, Constant, Plain, Differential, Shift, Delay}
use Rattle.ore_monomial.specs.Passing.{numbers_to}
use Rattle.ore_monomial.proofs.Monomials.{exponent_past, with_own}
use Rattle.ore_commute.specs.ClosedForm.{fallen, number, lowered, shifted_terms, axis_terms, passed, closed_form, differential_of, axes, axes_below, total_step}
use Rattle.ore_commute.specs.Product.{IntegerTerms, checked, IsStarted, HasRoom}
use Rattle.ore_monomial.specs.Numbers.{are_within}
use Rattle.ore_commute.proofs.Lists.{drop-numbers_to}
use Rattle.ore_commute.proofs.Numbers.{number_first}
use Rattle.ore_commute.proofs.Axes.{coordinate_is, own_away, differential_away}
use Rattle.ore_commute.proofs.Distinct.{IsAway, keys_kept, keys_of_flat}
use Rattle.ore_commute.proofs.FlatForm.{flat}
use Rattle.ore_commute.proofs.Falling.{monomials, member}
use Rattle.ore_commute.proofs.Kept.{lowered_some, AreApartAll, axes_apart, kept-flat, kept_among}
use Rattle.ore_commute.proofs.Checked.{checked_err, stopped}

pub not_coordinate : (k : VarKind) → (k ≡ Coordinate → ⊥) → is_coordinate k ≡ false
not_coordinate Coordinate n = absurd (n refl)
not_coordinate Constant n = refl
not_coordinate Plain n = refl
not_coordinate (Differential on) n = refl
not_coordinate (Shift on step) n = refl
not_coordinate (Delay on step) n = refl

module _ (s : Signature) where
  pub axes_coordinate : (n : ℕ) → kind_at s n ≡ Coordinate → axes_below s (n + 1) ≡ (n, differential_of s n) ∷ axes_below s n
  unfolding axes_below
  axes_coordinate n e = ap (axes_below s) (add-one n) ∙ ap (λ k. cond (is_coordinate k) ((n, differential_of s n) ∷ axes_below s n) (axes_below s n)) e

  pub axes_other : (n : ℕ) → is_coordinate (kind_at s n) ≡ false → axes_below s (n + 1) ≡ axes_below s n
  unfolding axes_below
  axes_other n e = ap (axes_below s) (add-one n) ∙ ap (λ b. cond b ((n, differential_of s n) ∷ axes_below s n) (axes_below s n)) e

  axes_beyond : (e n : ℕ) → length s.kinds ≤ n → axes_below s (e + n) ≡ axes_below s n
  axes_beyond zero n h = ap (axes_below s) (let q : 0 + n ≡ n = omega arith in q)
  axes_beyond (suc e) n h =
      let q : suc e + n ≡ (e + n) + 1 = omega arith in
      ap (axes_below s) q ∙ axes_other (e + n) (ap is_coordinate (get_or_past s.kinds (e + n) Constant (omega arith))) ∙ axes_beyond e n h

  pub axes_past : (n : ℕ) → length s.kinds ≤ n → n ≤ 12 → axes_below s 12 ≡ axes_below s n
  axes_past n h l = let q : (12 - n) + n ≡ 12 = omega arith in ap (axes_below s) (sym q) ∙ axes_beyond (12 - n) n h

-- ---- the term that lowers nothing stands first

module _ (h : ℤ) (p : ℕ × ℕ) (c a : ℕ) (us : IntegerTerms) where
  same_term : Monomial × ℤ → Monomial × ℤ
  same_term u = (fallen p.0 p.1 0 0 u.0, pos 1 *ℤ u.1)

  axis_split : (rest : IntegerTerms) × (axis_terms integers h p c a us ≡ map same_term us ++ rest)
  unfolding axis_terms shifted_terms same_term
  axis_split =
      let n = number integers h c a 0 0 in
      let one : n ≢ pos 0 = λ e. integers.one_apart (sym (number_first h c a) ∙ e) in
      let inner = flat_map (λ j. lowered integers (number integers h c a 0 j) p 0 j us) (drop 1 (numbers_to (a - 0))) in
      let outer = flat_map (λ k. flat_map (λ j. lowered integers (number integers h c a k j) p k j us) (numbers_to (a - k))) (drop 1 (numbers_to (min a c))) in (
        inner ++ outer,
        ap (flat_map (λ k. flat_map (λ j. lowered integers (number integers h c a k j) p k j us) (numbers_to (a - k)))) (drop-numbers_to (min a c) 0 (omega arith))
            ∙ ap (λ ts. ts ++ outer) (ap (flat_map (λ j. lowered integers (number integers h c a 0 j) p 0 j us)) (drop-numbers_to (a - 0) 0 (omega arith)))
            ∙ append_assoc (lowered integers n p 0 0 us) inner outer
            ∙ ap (λ ts. ts ++ (inner ++ outer)) (lowered_some integers n p 0 0 us one ∙ (λ i. map (λ (u : Monomial × ℤ). (fallen p.0 p.1 0 0 u.0, number_first h c a i *ℤ u.1)) us)),
      )

  -- a coordinate that isn't there changes nothing
  unchanged : a ≡ 0 → axis_terms integers h p c a us ≡ us
  unfolding axis_terms shifted_terms numbers_to
  unchanged e =
      let n = number integers h c a 0 0 in
      let one : n ≢ pos 0 = λ z. integers.one_apart (sym (number_first h c a) ∙ z) in
      let few : min a c ≡ 0 = omega arith in
      let none : a - 0 ≡ 0 = omega arith in
      ap (λ m. flat_map (λ k. flat_map (λ j. lowered integers (number integers h c a k j) p k j us) (numbers_to (a - k))) (numbers_to m)) few
      ∙ append-nil (flat_map (λ j. lowered integers (number integers h c a 0 j) p 0 j us) (numbers_to (a - 0)))
      ∙ ap (λ m. flat_map (λ j. lowered integers (number integers h c a 0 j) p 0 j us) (numbers_to m)) none
      ∙ append-nil (lowered integers n p 0 0 us)
      ∙ lowered_some integers n p 0 0 us one
      ∙ (λ i. map (λ (u : Monomial × ℤ). (fallen p.0 p.1 0 0 u.0, number_first h c a i *ℤ u.1)) us)
      ∙ each us
    where
      nothing : (x : ℕ) (m : Monomial) → lower x 0 m ≡ m
      nothing x m = let q : exponent m x - 0 ≡ exponent m x = omega arith in ap (λ e. with_exponent x e m) q ∙ with_own x m

      each : (us : IntegerTerms) → map (λ (u : Monomial × ℤ). (fallen p.0 p.1 0 0 u.0, pos 1 *ℤ u.1)) us ≡ us
      each [] = refl
      each (u ∷ us) = λ i. ((nothing p.0 (lower p.1 0 u.0) ∙ nothing p.1 u.0) i, integer_one-times u.1 i) ∷ each us i

  started_again : IsStarted us → IsStarted (axis_terms integers h p c a us)
  unfolding same_term
  started_again s = subst IsStarted (sym axis_split.1) (first us s axis_split.0)
    where
      first : (us : IntegerTerms) → IsStarted us → (rest : IntegerTerms) → IsStarted (map same_term us ++ rest)
      first [] s rest = absurd s
      first (u ∷ us) s rest = λ e. s (sym (integer_one-times u.1) ∙ e)

  spoilt_again : are_within program us ≡ false → are_within program (axis_terms integers h p c a us) ≡ false
  unfolding same_term
  spoilt_again f = ap (are_within program) axis_split.1 ∙ list_all-append _ (map same_term us) axis_split.0 ∙ ap (λ b. b && are_within program axis_split.0) (same us ∙ f)
    where
      same : (us : IntegerTerms) → are_within program (map same_term us) ≡ are_within program us
      same [] = refl
      same (u ∷ us) = λ i. nat_le (nat_abs (integer_one-times u.1 i)) 170141183460469231731687303715884105727 && same us i

module _ (s : Signature) (m n : Monomial) where
  pub passed_started : (ts : List (ℕ × ℕ)) → IsStarted (passed integers s ts m n)
  unfolding passed
  passed_started [] = integers.one_apart
  passed_started (p ∷ ts) = started_again (total_step integers s p.0 m) p (exponent m p.1) (exponent n p.0) (passed integers s ts m n) (passed_started ts)

  pub passed_absent : (k : ℕ) → kind_at s k ≡ Coordinate → exponent n k ≡ 0 → passed integers s (axes_below s (k + 1)) m n ≡ passed integers s (axes_below s k) m n
  unfolding passed
  passed_absent k c z =
      ap (λ ts. passed integers s ts m n) (axes_coordinate s k c)
      ∙ unchanged (total_step integers s k m) (k, differential_of s k) (exponent m (differential_of s k)) (exponent n k) (passed integers s (axes_below s k) m n) z

  spoilt_next : (k : ℕ) → are_within program (passed integers s (axes_below s k) m n) ≡ false → are_within program (passed integers s (axes_below s (k + 1)) m n) ≡ false
  unfolding passed
  spoilt_next k f = by (is_coordinate (kind_at s k)) refl
    where
      by : (b : Bool) → is_coordinate (kind_at s k) ≡ b → are_within program (passed integers s (axes_below s (k + 1)) m n) ≡ false
      by true e =
          ap (λ ts. are_within program (passed integers s ts m n)) (axes_coordinate s k (coordinate_is (kind_at s k) e))
          ∙ spoilt_again (total_step integers s k m) (k, differential_of s k) (exponent m (differential_of s k)) (exponent n k) (passed integers s (axes_below s k) m n) f
      by false e = ap (λ ts. are_within program (passed integers s ts m n)) (axes_other s k e) ∙ f

  spoilt_later : (e k : ℕ) → are_within program (passed integers s (axes_below s k) m n) ≡ false → are_within program (passed integers s (axes_below s (e + k)) m n) ≡ false
  spoilt_later zero k f = ap (λ x. are_within program (passed integers s (axes_below s x) m n)) (let q : 0 + k ≡ k = omega arith in q) ∙ f
  spoilt_later (suc e) k f = ap (λ x. are_within program (passed integers s (axes_below s x) m n)) (let q : suc e + k ≡ (e + k) + 1 = omega arith in q) ∙ spoilt_next (e + k) (spoilt_later e k f)

  -- where the terms are beyond the range after k variables, they are so after all
  pub stops_on : (k : ℕ) (e : Cause) → k ≤ 12 → checked [] (passed integers s (axes_below s k) m n) ≡ Err e → checked [] (closed_form integers s m n) ≡ Err e
  unfolding closed_form axes
  stops_on k e l h =
      let r = checked_err [] (passed integers s (axes_below s k) m n) e h in
      let q : (12 - k) + k ≡ 12 = omega arith in
      stopped [] (passed integers s (axes_below s 12) m n) (ap (λ x. are_within program (passed integers s (axes_below s x) m n)) (sym q) ∙ spoilt_later (12 - k) k r.0) ∙ ap Err (sym r.1)

  pub ends_at : (k : ℕ) → length s.kinds ≤ k → k ≤ 12 → closed_form integers s m n ≡ passed integers s (axes_below s k) m n
  unfolding closed_form axes
  ends_at k h l = ap (λ ts. passed integers s ts m n) (axes_past s k h l)

  passed_exponent : (ts : List (ℕ × ℕ)) → AreApartAll integers s ts → (y : ℕ) → IsAway y ts → (u : Monomial) → In u (monomials integers (passed integers s ts m n)) → exponent u y ≡ exponent m y + exponent n y
  passed_exponent ts ready y away u i =
      keys_kept ts m n u y away
      (subst (In u) (keys_of_flat integers s ts m n) (kept_among integers u (flat integers s ts m n) (subst (λ vs. In u (monomials integers vs)) (sym (kept-flat integers s ts ready m n)) i)))

  -- the terms so far have room for the next coordinate
  pub passed_room : (t : ℕ) → t < 12 → kind_at s t ≡ Coordinate → All (λ u. HasRoom t (differential_of s t) (exponent n t) (exponent m (differential_of s t)) u.0) (passed integers s (axes_below s t) m n)
  passed_room t tl c k d l =
      let i = member (passed integers s (axes_below s t) m n) k d l in
      let ready = axes_apart integers s t (omega arith) in
      let e = passed_exponent (axes_below s t) ready t (own_away integers s t tl (ap is_coordinate c)) (get_or (passed integers s (axes_below s t) m n) k d).0 i in
      record { coordinate = omega arith; operator = by ready i (dec_lt (differential_of s t) 12) }
    where
      by : AreApartAll integers s (axes_below s t) → In (get_or (passed integers s (axes_below s t) m n) k d).0 (monomials integers (passed integers s (axes_below s t) m n)) → Dec (differential_of s t < 12) → exponent m (differential_of s t) ≤ exponent (get_or (passed integers s (axes_below s t) m n) k d).0 (differential_of s t)
      by ready i (yes dl) = let e = passed_exponent (axes_below s t) ready (differential_of s t) (differential_away integers s t tl dl) (get_or (passed integers s (axes_below s t) m n) k d).0 i in omega arith
      by ready i (no q) = let z = exponent_past (differential_of s t) m (omega arith) in omega arith
