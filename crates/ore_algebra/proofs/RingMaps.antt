-- Maps of numbers that keep 0, 1, sums, products and opposites.
--     IsRingMap       such a map, from one domain to another
--     sent-of_nat     a natural number is sent to itself
--     sent-power      a power is sent to the power of what its base is sent to
--     sent-cond       a number or zero is sent to what the number is sent to, or zero
--     sent_terms      a list of terms with each number sent
--     sum_at-sent     the sum of the numbers of such a list at a key
use Rattle.std.proofs.Common.{◌≡◌, ℕ, zero, suc, Bool, true, false, cond, List, [], ◌∷◌, map, sym, ◌∙◌}
use Rattle.std.specs.Ordering.{eq_by_cmp}
use Rattle.std.specs.declared.cmp.Ordering.{Ordering}
use Rattle.ore_algebra.specs.Domain.{Domain}
use Rattle.ore_algebra.specs.Free.{sum_at}
use Rattle.ore_algebra.specs.Ring.{of_nat, power}

pub record IsRingMap (K L : Domain) (f : K.Number → L.Number) : Type 0 where
  pub zero : f K.zero ≡ L.zero
  pub one : f K.one ≡ L.one
  pub plus : (x y : K.Number) → f (K.plus x y) ≡ L.plus (f x) (f y)
  pub times : (x y : K.Number) → f (K.times x y) ≡ L.times (f x) (f y)
  pub minus : (x : K.Number) → f (K.minus x) ≡ L.minus (f x)

module _ (K L : Domain) (f : K.Number → L.Number) where
  abbrev pub sent_terms : {M : Type 0} → List (M × K.Number) → List (M × L.Number)
  sent_terms ts = map (λ t. (t.0, f t.1)) ts

module _ (K L : Domain) (f : K.Number → L.Number) (r : IsRingMap K L f) where
  pub sent-of_nat : (n : ℕ) → f (of_nat K.ring n) ≡ of_nat L.ring n
  sent-of_nat zero = r.zero
  sent-of_nat (suc n) = r.plus _ _ ∙ (λ i. L.plus (r.one i) (sent-of_nat n i))

  pub sent-power : (x : K.Number) (y : L.Number) → f x ≡ y → (n : ℕ) → f (power K.ring x n) ≡ power L.ring y n
  sent-power x y e zero = r.one
  sent-power x y e (suc n) = r.times _ _ ∙ (λ i. L.times (e i) (sent-power x y e n i))

  pub sent-cond : (b : Bool) (x : K.Number) (y : L.Number) → f x ≡ y → f (cond b x K.zero) ≡ cond b y L.zero
  sent-cond true x y e = e
  sent-cond false x y e = r.zero

  pub sum_at-sent : {M : Type 0} (R : M → M → Ordering) (q : M) (ts : List (M × K.Number)) → sum_at L R q (sent_terms K L f ts) ≡ f (sum_at K R q ts)
  unfolding sum_at
  sum_at-sent R q [] = sym r.zero
  sum_at-sent R q (t ∷ ts) = (λ i. L.plus (sym (sent-cond (eq_by_cmp R q t.0) t.1 (f t.1) (λ j. f t.1)) i) (sum_at-sent R q ts i)) ∙ sym (r.plus _ _)
