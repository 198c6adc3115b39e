-- What passing one coordinate makes, where the operators that are spent are fixed, term by term.
--     shifted_from     from the fall by j on
--     shifted_next, shifted_stops, shifted_over, shifted_end    one turn of the loop over j
use Rattle.std.proofs.Common.{◌≡◌, ◌≢◌, ℕ, zero, suc, ◌+◌, ◌-◌, ◌*◌, ◌^◌, ◌<◌, ◌≤◌, [], ◌∷◌, map, drop, refl, sym, ap, ◌∙◌, add-one, arith}
use Rattle.std.specs.Prelude.{ℤ, pos, ◌*ℤ◌, nat_abs}
use Rattle.std.specs.List.{flat_map, All}
use Rattle.std.specs.declared.result.Result.TheVariants.{Ok, Err}
use Rattle.ore_algebra.specs.Ring.{of_nat, power}
use Rattle.ore_algebra.specs.Limits.{Cause, Overflow}
use Rattle.ore_algebra.proofs.DomainLaws as Numbers
use Rattle.ore_algebra.proofs.Integers.{integers}
use Rattle.ore_monomial.specs.Monomial.{Monomial, Divides}
use Rattle.ore_monomial.specs.Passing.{choose, numbers_to}
use Rattle.ore_commute.specs.ClosedForm.{falling_factorial, divisor, number, lowered, shifted_terms}
use Rattle.ore_commute.specs.Product.{IntegerTerms, divided, checked, IsStarted, HasRoom}
use Rattle.ore_commute.proofs.Numbers.{nat_abs-times, apart_zero, number_apart, le-times}
use Rattle.ore_commute.proofs.Lists.{drop-numbers_to, drop_all-numbers_to, flat_map-map, flat_none}
use Rattle.ore_commute.proofs.Kept.{lowered_none, lowered_some}
use Rattle.ore_commute.proofs.Divisors.{divides_room, quotient-divisor}
use Rattle.ore_commute.proofs.Checked.{checked_stops, checked_none, flat_next, flat_stops}

pub divides_all : (t d c a k j : ℕ) (us : IntegerTerms) → t < 12 → t ≢ d → k ≤ c → k + j ≤ a → All (λ u. HasRoom t d a c u.0) us → All (λ u. Divides (divisor t d k j) u.0) us
divides_all t d c a k j us tl n kc ja room i e l = let r = room i e l in let x = r.coordinate in let y = r.operator in divides_room t d k j _ tl n (omega arith) (λ dl. omega arith)

-- where j is one of the falls
pub fall_bound : (h : ℤ) (n f j : ℕ) → (h ≡ pos 0 → f ≡ 1) → (h ≢ pos 0 → f ≡ n + 1) → j < f → (j ≤ n) × (0 < j → h ≢ pos 0)
fall_bound h n f j still moving l = by (integers.discrete h (pos 0))
  where
    by : Dec (h ≡ pos 0) → (j ≤ n) × (0 < j → h ≢ pos 0)
    by (yes e) = let s = still e in (omega arith, λ p. absurd (omega arith))
    by (no m) = let s = moving m in (omega arith, λ p. m)

-- the numbers of terms that shifts by nothing make
still_number : (h : ℤ) (c a k j : ℕ) → h ≡ pos 0 → number integers h c a k (suc j) ≡ pos 0
unfolding number
still_number h c a k j e =
    ap (λ z. integers.times (of_nat integers.ring (choose c k * falling_factorial a k)) (integers.times (of_nat integers.ring (choose (a - k) (suc j))) z)) (ap (λ x. x *ℤ power integers.ring h j) e ∙ Numbers.zero_times integers (power integers.ring h j))
    ∙ ap (integers.times (of_nat integers.ring (choose c k * falling_factorial a k))) (Numbers.times_zero integers (of_nat integers.ring (choose (a - k) (suc j))))
    ∙ Numbers.times_zero integers (of_nat integers.ring (choose c k * falling_factorial a k))

product_less : (m : Monomial) (z : ℤ) (u : Monomial × ℤ) → u.1 ≢ pos 0 → nat_abs (divided m z u).1 < 2 ^ 127 → nat_abs z < 2 ^ 127
unfolding divided
product_less m z u n l = let e = nat_abs-times z u.1 in let g = le-times (nat_abs z) (nat_abs u.1) (apart_zero u.1 n) in omega arith

module _ (h : ℤ) (t d c a : ℕ) (us : IntegerTerms) (k : ℕ) where
  abbrev shifted_by : ℕ → IntegerTerms
  shifted_by j = lowered integers (number integers h c a k j) (t, d) k j us

  unfoldable pub shifted_from : ℕ → IntegerTerms
  shifted_from j = flat_map shifted_by (drop j (numbers_to (a - k)))

  pub shifted_all : shifted_terms integers h (t, d) c a us k ≡ shifted_from 0
  unfolding shifted_terms shifted_from
  shifted_all = refl

  shifted_here : (j : ℕ) → j ≤ a - k → shifted_from j ≡ flat_map shifted_by (j ∷ drop (suc j) (numbers_to (a - k)))
  unfolding shifted_from
  shifted_here j l = ap (flat_map shifted_by) (drop-numbers_to (a - k) j l)

  shifted_divided : (j : ℕ) → t < 12 → t ≢ d → number integers h c a k j ≢ pos 0 → shifted_by j ≡ map (divided (divisor t d k j) (number integers h c a k j)) us
  unfolding divided
  shifted_divided j tl n z = lowered_some integers (number integers h c a k j) (t, d) k j us z ∙ (λ i. map (λ (u : Monomial × ℤ). (sym (quotient-divisor t d k j u.0 tl n) i, number integers h c a k j *ℤ u.1)) us)

  module _ (j : ℕ) (tl : t < 12) (n : t ≢ d) (kc : k ≤ c) (ja : k + j ≤ a) (steps : 0 < j → h ≢ pos 0) where
    apart : number integers h c a k j ≢ pos 0
    apart = number_apart h c a k j kc ja steps

    pub shifted_next : (front out : IntegerTerms) → checked front (map (divided (divisor t d k j) (number integers h c a k j)) us) ≡ Ok out → checked front (shifted_from j) ≡ checked out (shifted_from (j + 1))
    unfolding shifted_from
    shifted_next front out e =
        ap (checked front) (shifted_here j (omega arith))
        ∙ flat_next shifted_by front j (drop (suc j) (numbers_to (a - k))) out (ap (checked front) (shifted_divided j tl n apart) ∙ e)
        ∙ ap (λ i. checked out (flat_map shifted_by (drop i (numbers_to (a - k))))) (sym (add-one j))

    pub shifted_stops : (front : IntegerTerms) (e : Cause) → checked front (map (divided (divisor t d k j) (number integers h c a k j)) us) ≡ Err e → checked front (shifted_from j) ≡ Err e
    shifted_stops front e q =
        ap (checked front) (shifted_here j (omega arith))
        ∙ flat_stops shifted_by front j (drop (suc j) (numbers_to (a - k))) e (ap (checked front) (shifted_divided j tl n apart) ∙ q)

    pub shifted_over : (front : IntegerTerms) → IsStarted us → (nat_abs (number integers h c a k j) < 2 ^ 127 → ⊥) → checked front (shifted_from j) ≡ Err Overflow
    shifted_over front started big = shifted_stops front Overflow (first us started)
      where
        first : (us : IntegerTerms) → IsStarted us → checked front (map (divided (divisor t d k j) (number integers h c a k j)) us) ≡ Err Overflow
        first [] s = absurd s
        first (u ∷ us) s = checked_stops front (divided (divisor t d k j) (number integers h c a k j) u) (map (divided (divisor t d k j) (number integers h c a k j)) us) (λ l. big (product_less (divisor t d k j) (number integers h c a k j) u s l))

  rest_none : (m : ℕ) → h ≡ pos 0 → flat_map shifted_by (drop 1 (numbers_to m)) ≡ []
  unfolding numbers_to
  rest_none zero e = refl
  rest_none (suc m) e = flat_map-map shifted_by suc (numbers_to m) ∙ flat_none (λ j. shifted_by (suc j)) (numbers_to m) (λ j i. lowered_none integers (number integers h c a k (suc j)) (t, d) k (suc j) us (still_number h c a k j e))

  pub shifted_end : (front : IntegerTerms) (j : ℕ) → (h ≡ pos 0 → j ≡ 1) → (h ≢ pos 0 → j ≡ a - k + 1) → checked front (shifted_from j) ≡ Ok front
  unfolding shifted_from
  shifted_end front j still moving = ap (checked front) (by (integers.discrete h (pos 0))) ∙ checked_none front
    where
      by : Dec (h ≡ pos 0) → flat_map shifted_by (drop j (numbers_to (a - k))) ≡ []
      by (yes e) = ap (λ i. flat_map shifted_by (drop i (numbers_to (a - k)))) (still e) ∙ rest_none (a - k) e
      by (no n) = ap (λ i. flat_map shifted_by (drop i (numbers_to (a - k)))) (moving n ∙ add-one (a - k)) ∙ ap (flat_map shifted_by) (drop_all-numbers_to (a - k))

-- ---- one turn of the loop over the spent operators

module _ (f : ℕ → IntegerTerms) (m : ℕ) where
  pub counted_next : (front out : IntegerTerms) (k : ℕ) → k ≤ m → checked front (f k) ≡ Ok out → checked front (flat_map f (drop k (numbers_to m))) ≡ checked out (flat_map f (drop (k + 1) (numbers_to m)))
  counted_next front out k l e =
      ap (λ ks. checked front (flat_map f ks)) (drop-numbers_to m k l)
      ∙ flat_next f front k (drop (suc k) (numbers_to m)) out e
      ∙ ap (λ i. checked out (flat_map f (drop i (numbers_to m)))) (sym (add-one k))

  pub counted_stops : (front : IntegerTerms) (k : ℕ) (c : Cause) → k ≤ m → checked front (f k) ≡ Err c → checked front (flat_map f (drop k (numbers_to m))) ≡ Err c
  counted_stops front k c l e = ap (λ ks. checked front (flat_map f ks)) (drop-numbers_to m k l) ∙ flat_stops f front k (drop (suc k) (numbers_to m)) c e

  pub counted_end : (front : IntegerTerms) (k : ℕ) → k ≡ suc m → checked front (flat_map f (drop k (numbers_to m))) ≡ Ok front
  counted_end front k e = ap (λ i. checked front (flat_map f (drop i (numbers_to m)))) e ∙ ap (λ ks. checked front (flat_map f ks)) (drop_all-numbers_to m) ∙ checked_none front
