-- The closed form of a product of monomials, where nothing shifts.
--     still                       no steps are summed
--     none_shifts                 what is not declared is no shift
--     operator_is                 a differential operator acts on a coordinate that comes before it
--     shifted_divided             what spending k operators makes of terms: one lowering of each
--     shifted_over                where its number is beyond the range, the terms are
--     axis_same                   where no operator is spent, the terms stay
--     passed_axis, passed_same    one more coordinate of the product
use Rattle.std.proofs.Common.{◌≡◌, ◌≢◌, ℕ, zero, suc, ◌+◌, ◌-◌, ◌*◌, ◌^◌, ◌<◌, ◌≤◌, min, Bool, true, false, List, [], ◌∷◌, ◌++◌, length, map, drop, refl, sym, ap, ◌∙◌, true≢false, subst, arith}
use Rattle.std.specs.Prelude.{ℤ, pos, ◌*ℤ◌, nat_abs}
use Rattle.std.specs.List.{flat_map}
use Rattle.std.specs.declared.result.Result.TheVariants.{Err}
use Rattle.std.proofs.lemmas.List.{append-nil, get_or_past}
use native.Mathlib.Decide.{dec_lt}
use borrow.Author.Tests.{eqb-true}
use Rattle.ore_algebra.specs.Ring.{of_nat, power}
use Rattle.ore_algebra.specs.Limits.{Overflow}
use Rattle.ore_algebra.proofs.DomainLaws as Numbers
use Rattle.ore_algebra.proofs.Integers.{integers, one_times as integer_one-times}
use Rattle.ore_monomial.specs.declared.signature.VarKind.{VarKind}
use Rattle.ore_monomial.specs.declared.signature.VarKind.TheVariants.{Coordinate, Constant, Plain, Differential, Shift, Delay}
use Rattle.ore_monomial.specs.Monomial.{Monomial, exponent, with_exponent, lower}
use Rattle.ore_monomial.specs.Passing.{choose, numbers_to}
use Rattle.ore_monomial.specs.Signature.{Signature, kind_at, is_acting, is_coordinate, coordinate_of, is_differential_on}
use Rattle.ore_monomial.proofs.Monomials.{with_own}
use Rattle.ore_monomial.proofs.Signatures.{lawful}
use Rattle.ore_commute.specs.ClosedForm.{falling_factorial, fallen, divisor, number, lowered, shifted_terms, axis_terms, passed, step_on, step_sum, total_step, axes_below, differential_of}
use Rattle.ore_commute.specs.Product.{IntegerTerms, divided, checked, IsStarted}
use Rattle.ore_commute.proofs.Axes.{found, coordinate_is}
use Rattle.ore_commute.proofs.Divisors.{quotient-divisor}
use Rattle.ore_commute.proofs.Kept.{lowered_none, lowered_some}
use Rattle.ore_commute.proofs.Lists.{drop-numbers_to, flat_map-map, flat_none}
use Rattle.ore_commute.proofs.Numbers.{number_is, number_first, number_apart, choose_none}
use Rattle.ore_commute.proofs.Shifted as shifted
use Rattle.ore_commute.proofs.Walk.{axes_coordinate, axes_other}
use Rattle.ore_weyl.specs.Shifts.{is_shift, HasNoShift}

-- ---- variables

no_step : (t : ℕ) (k : VarKind) → is_shift k ≡ false → step_on integers t k ≡ pos 0
no_step t Coordinate h = refl
no_step t Constant h = refl
no_step t Plain h = refl
no_step t (Differential on) h = refl
no_step t (Shift on step) h = absurd (true≢false h)
no_step t (Delay on step) h = absurd (true≢false h)

acts_on : (t : ℕ) (k : VarKind) → is_differential_on t k ≡ true → (is_acting k ≡ true) × (coordinate_of k ≡ t)
acts_on t Coordinate h = absurd (true≢false (sym h))
acts_on t Constant h = absurd (true≢false (sym h))
acts_on t Plain h = absurd (true≢false (sym h))
acts_on t (Differential on) h = (refl, eqb-true on t h)
acts_on t (Shift on step) h = absurd (true≢false (sym h))
acts_on t (Delay on step) h = absurd (true≢false (sym h))

module _ (s : Signature) where
  pub none_shifts : ((x : ℕ) → x < length s.kinds → is_shift (kind_at s x) ≡ false) → HasNoShift s
  none_shifts h x = by (dec_lt x (length s.kinds))
    where
      by : Dec (x < length s.kinds) → is_shift (kind_at s x) ≡ false
      by (yes l) = h x l
      by (no n) = ap is_shift (get_or_past s.kinds x Constant (omega arith))

  -- t is a coordinate before its differential operator
  pub operator_is : (t : ℕ) → differential_of s t < 12 → (t < differential_of s t) × (kind_at s t ≡ Coordinate)
  operator_is t h =
      let a = acts_on t (kind_at s (differential_of s t)) (found s t 12 (omega arith) h) in
      subst (λ x. (x < differential_of s t) × (kind_at s x ≡ Coordinate)) a.1 (lawful s (differential_of s t) a.0)

module _ (s : Signature) (unshifted : HasNoShift s) where
  still_sum : (t x : ℕ) (es : List ℕ) → step_sum integers s t x es ≡ pos 0
  unfolding step_sum
  still_sum t x [] = refl
  still_sum t x (b ∷ es) = (λ i. integers.plus (integers.times (of_nat integers.ring b) (no_step t (kind_at s x) (unshifted x) i)) (still_sum t (suc x) es i)) ∙ integers.plus_zero _ ∙ Numbers.times_zero integers (of_nat integers.ring b)

  pub still : (t : ℕ) (m : Monomial) → total_step integers s t m ≡ pos 0
  unfolding total_step
  still t m = still_sum t 0 m.exponents

-- ---- one coordinate

-- the numbers of terms that shifts by nothing make
still_number : (c a k j : ℕ) → number integers (pos 0) c a k (suc j) ≡ pos 0
unfolding number
still_number c a k j =
    ap (λ z. integers.times (of_nat integers.ring (choose c k * falling_factorial a k)) (integers.times (of_nat integers.ring (choose (a - k) (suc j))) z)) (Numbers.zero_times integers (power integers.ring (pos 0) j))
    ∙ ap (integers.times (of_nat integers.ring (choose c k * falling_factorial a k))) (Numbers.times_zero integers (of_nat integers.ring (choose (a - k) (suc j))))
    ∙ Numbers.times_zero integers (of_nat integers.ring (choose c k * falling_factorial a k))

number_here : (c a k : ℕ) → number integers (pos 0) c a k 0 ≡ pos (choose c k * falling_factorial a k)
number_here c a k =
    number_is (pos 0) c a k 0
    ∙ ap (λ n. pos (choose c k * falling_factorial a k) *ℤ (pos n *ℤ pos 1)) (choose_none (a - k))
    ∙ integers.times_one (pos (choose c k * falling_factorial a k))

nothing : (x : ℕ) (m : Monomial) → lower x 0 m ≡ m
nothing x m = let q : exponent m x - 0 ≡ exponent m x = omega arith in ap (λ e. with_exponent x e m) q ∙ with_own x m

module _ (p : ℕ × ℕ) (c a : ℕ) (us : IntegerTerms) where
  abbrev lowered_by : ℕ → ℕ → IntegerTerms
  lowered_by k j = lowered integers (number integers (pos 0) c a k j) p k j us

  no_more : (k m : ℕ) → flat_map (lowered_by k) (drop 1 (numbers_to m)) ≡ []
  unfolding numbers_to
  no_more k zero = refl
  no_more k (suc m) = flat_map-map (lowered_by k) suc (numbers_to m) ∙ flat_none (λ j. lowered_by k (suc j)) (numbers_to m) (λ j i. lowered_none integers (number integers (pos 0) c a k (suc j)) p k (suc j) us (still_number c a k j))

  shifted_lowered : (k : ℕ) → shifted_terms integers (pos 0) p c a us k ≡ lowered_by k 0
  unfolding shifted_terms
  shifted_lowered k =
      ap (flat_map (lowered_by k)) (drop-numbers_to (a - k) 0 (omega arith))
      ∙ ap (λ ts. lowered_by k 0 ++ ts) (no_more k (a - k))
      ∙ append-nil (lowered_by k 0)

  pub axis_same : min a c ≡ 0 → axis_terms integers (pos 0) p c a us ≡ us
  unfolding axis_terms numbers_to
  axis_same few =
      let one : number integers (pos 0) c a 0 0 ≢ pos 0 = λ z. integers.one_apart (sym (number_first (pos 0) c a) ∙ z) in
      ap (λ m. flat_map (shifted_terms integers (pos 0) p c a us) (numbers_to m)) few
      ∙ append-nil (shifted_terms integers (pos 0) p c a us 0)
      ∙ shifted_lowered 0
      ∙ lowered_some integers (number integers (pos 0) c a 0 0) p 0 0 us one
      ∙ (λ i. map (λ (u : Monomial × ℤ). (fallen p.0 p.1 0 0 u.0, number_first (pos 0) c a i *ℤ u.1)) us)
      ∙ each us
    where
      each : (us : IntegerTerms) → map (λ (u : Monomial × ℤ). (fallen p.0 p.1 0 0 u.0, pos 1 *ℤ u.1)) us ≡ us
      each [] = refl
      each (u ∷ us) = λ i. ((nothing p.0 (lower p.1 0 u.0) ∙ nothing p.1 u.0) i, integer_one-times u.1 i) ∷ each us i

module _ (t d c a : ℕ) (us : IntegerTerms) (k : ℕ) (tl : t < 12) (n : t ≢ d) (kc : k ≤ c) (ka : k ≤ a) where
  pub shifted_divided : shifted_terms integers (pos 0) (t, d) c a us k ≡ map (divided (divisor t d k 0) (pos (choose c k * falling_factorial a k))) us
  unfolding divided
  shifted_divided =
      shifted_lowered (t, d) c a us k
      ∙ lowered_some integers (number integers (pos 0) c a k 0) (t, d) k 0 us (number_apart (pos 0) c a k 0 kc (omega arith) (λ p. absurd (omega arith)))
      ∙ (λ i. map (λ (u : Monomial × ℤ). (sym (quotient-divisor t d k 0 u.0 tl n) i, number_here c a k i *ℤ u.1)) us)

  pub shifted_over : (front : IntegerTerms) → IsStarted us → (choose c k * falling_factorial a k < 2 ^ 127 → ⊥) → checked front (shifted_terms integers (pos 0) (t, d) c a us k) ≡ Err Overflow
  shifted_over front started big =
      ap (checked front) (shifted.shifted_all (pos 0) t d c a us k)
      ∙ shifted.shifted_over (pos 0) t d c a us k 0 tl n kc (omega arith) (λ p. absurd (omega arith)) front started (λ l. big (subst (λ z. nat_abs z < 2 ^ 127) (number_here c a k) l))

-- ---- all coordinates

module _ (s : Signature) (unshifted : HasNoShift s) (m n : Monomial) (t : ℕ) where
  pub passed_axis : kind_at s t ≡ Coordinate → passed integers s (axes_below s (t + 1)) m n ≡ axis_terms integers (pos 0) (t, differential_of s t) (exponent m (differential_of s t)) (exponent n t) (passed integers s (axes_below s t) m n)
  unfolding passed
  passed_axis c =
      ap (λ ts. passed integers s ts m n) (axes_coordinate s t c)
      ∙ ap (λ h. axis_terms integers h (t, differential_of s t) (exponent m (differential_of s t)) (exponent n t) (passed integers s (axes_below s t) m n)) (still s unshifted t m)

  -- where no operator meets its coordinate, the terms stay
  pub passed_same : min (exponent n t) (exponent m (differential_of s t)) ≡ 0 → passed integers s (axes_below s (t + 1)) m n ≡ passed integers s (axes_below s t) m n
  passed_same few = by (is_coordinate (kind_at s t)) refl
    where
      by : (b : Bool) → is_coordinate (kind_at s t) ≡ b → passed integers s (axes_below s (t + 1)) m n ≡ passed integers s (axes_below s t) m n
      by true e = passed_axis (coordinate_is (kind_at s t) e) ∙ axis_same (t, differential_of s t) (exponent m (differential_of s t)) (exponent n t) (passed integers s (axes_below s t) m n) few
      by false e = ap (λ ts. passed integers s ts m n) (axes_other s t e)
