-- What the variables of a signature do to a coordinate, found one after another.
--     shift_steps, delay_steps    what a power of a letter adds, as a product of numbers
--     differential_at, differential_nowhere    the differential operator that is found is that of the definition
--     step_sum-next, step_sum-past    one more variable, and those past the last
use Rattle.std.proofs.Common.{◌≡◌, ℕ, zero, suc, ◌+◌, ◌*◌, ◌<◌, ◌≤◌, Bool, true, false, cond, List, [], ◌∷◌, length, get_or, drop, add-one, eq-eqb, refl, sym, ap, ◌∙◌, true≢false, arith}
use Rattle.std.specs.Prelude.{pos, ◌+ℤ◌, ◌*ℤ◌, neg_ℤ}
use Rattle.std.proofs.lemmas.List.{get_or_past}
use Rattle.std.proofs.Math.Seq.{drop-cons}
use Rattle.std.proofs.Math.IntN.{pos-*ℤ-pos}
use native.Mathlib.Decide.{dec_lt}
use Rattle.ore_algebra.specs.Ring.{of_nat}
use Rattle.ore_algebra.proofs.DomainLaws as Numbers
use Rattle.ore_algebra.proofs.Integers.{integers}
use Rattle.ore_algebra.proofs.RingLaws.{mul-neg}
use Rattle.ore_monomial.specs.Signature.{Signature, kind_at, is_differential_on}
use Rattle.ore_monomial.specs.declared.signature.VarKind.{VarKind}
use Rattle.ore_monomial.specs.declared.signature.VarKind.TheVariants.{Constant, Shift, Delay}
use Rattle.ore_monomial.proofs.Signatures.{count_at_most_12}
use Rattle.ore_commute.specs.ClosedForm.{differential_below, differential_of, step_on, step_sum}
use Rattle.ore_commute.proofs.Axes.{found, complete, one}
use Rattle.ore_commute.proofs.Numbers.{of_nat-is}

pub shift_steps : (e s : ℕ) → pos (e * s) ≡ of_nat integers.ring e *ℤ of_nat integers.ring s
shift_steps e s = sym (pos-*ℤ-pos e s) ∙ (λ i. sym (of_nat-is e) i *ℤ sym (of_nat-is s) i)

pub delay_steps : (e s : ℕ) → neg_ℤ (pos (e * s)) ≡ of_nat integers.ring e *ℤ neg_ℤ (of_nat integers.ring s)
delay_steps e s = ap neg_ℤ (shift_steps e s) ∙ sym (mul-neg integers.ring (of_nat integers.ring e) (of_nat integers.ring s))

pub step_on-shift : (on t step : ℕ) (kind : VarKind) → kind ≡ Shift on step → on ≡ t → step_on integers t kind ≡ of_nat integers.ring step
step_on-shift on t step kind e h = ap (step_on integers t) e ∙ ap (λ b. cond b (of_nat integers.ring step) (pos 0)) (eq-eqb on t h)

pub step_on-delay : (on t step : ℕ) (kind : VarKind) → kind ≡ Delay on step → on ≡ t → step_on integers t kind ≡ neg_ℤ (of_nat integers.ring step)
step_on-delay on t step kind e h = ap (step_on integers t) e ∙ ap (λ b. cond b (neg_ℤ (of_nat integers.ring step)) (pos 0)) (eq-eqb on t h)

module _ (s : Signature) (t : ℕ) where
  pub declared : (x : ℕ) → is_differential_on t (kind_at s x) ≡ true → x < length s.kinds
  declared x h = by (dec_lt x (length s.kinds))
    where
      by : Dec (x < length s.kinds) → x < length s.kinds
      by (yes l) = l
      by (no n) = absurd (true≢false (sym h ∙ ap (is_differential_on t) (get_or_past s.kinds x Constant (omega arith))))

  pub differential_at : (x : ℕ) → is_differential_on t (kind_at s x) ≡ true → x ≡ differential_of s t
  differential_at x h =
      let few = count_at_most_12 s in let l = declared x h in
      one s t x (differential_of s t) h (found s t 12 (omega arith) (complete s t 12 x (omega arith) (omega arith) h))

  at_most_12 : (n : ℕ) → n ≤ 12 → differential_below s t n ≤ 12
  unfolding differential_below
  at_most_12 zero h = omega arith
  at_most_12 (suc n) h = by (is_differential_on t (kind_at s n)) (at_most_12 n (omega arith))
    where
      by : (b : Bool) → differential_below s t n ≤ 12 → cond b n (differential_below s t n) ≤ 12
      by true r = omega arith
      by false r = r

  pub differential_nowhere : ((k : ℕ) → k < length s.kinds → is_differential_on t (kind_at s k) ≡ false) → 12 ≡ differential_of s t
  differential_nowhere none = by (dec_lt (differential_of s t) 12)
    where
      by : Dec (differential_of s t < 12) → 12 ≡ differential_of s t
      by (yes l) = let f = found s t 12 (omega arith) l in absurd (true≢false (sym f ∙ none (differential_of s t) (declared (differential_of s t) f)))
      by (no n) = let m = at_most_12 12 (omega arith) in omega arith

  pub step_sum-next : (x : ℕ) (es : List ℕ) → x < length es → step_sum integers s t x (drop x es) ≡ (of_nat integers.ring (get_or es x 0) *ℤ step_on integers t (kind_at s x)) +ℤ step_sum integers s t (x + 1) (drop (x + 1) es)
  unfolding step_sum
  step_sum-next x es h = ap (step_sum integers s t x) (drop-cons es x 0 h) ∙ (λ i. (of_nat integers.ring (get_or es x 0) *ℤ step_on integers t (kind_at s x)) +ℤ step_sum integers s t (sym (add-one x) i) (drop (sym (add-one x) i) es))

  pub step_sum-past : (x : ℕ) (es : List ℕ) → length s.kinds ≤ x → step_sum integers s t x es ≡ pos 0
  unfolding step_sum
  step_sum-past x [] h = refl
  step_sum-past x (b ∷ es) h =
      (λ i. (of_nat integers.ring b *ℤ step_on integers t (get_or_past s.kinds x Constant h i)) +ℤ step_sum-past (suc x) es (omega arith) i)
      ∙ ap (λ z. z +ℤ pos 0) (Numbers.times_zero integers (of_nat integers.ring b))
