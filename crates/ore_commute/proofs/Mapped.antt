-- The closed form over one domain gives that over another, as the whole numbers give that over the fractions.
--     pass_mapped            the flat form over K, mapped, is the product over L
--     numbers_mapped         the falling terms over the whole numbers, mapped, make the product over L
use Rattle.std.proofs.Common.{◌≡◌, ℕ, zero, suc, ◌-◌, ◌*◌, Bool, true, false, cond, List, [], ◌∷◌, ◌++◌, map, refl, sym, ap, ◌∙◌}
use Rattle.std.proofs.lemmas.List.{map-append}
use Rattle.std.specs.List.{flat_map}
use Rattle.ore_algebra.specs.Domain.{Domain}
use Rattle.ore_algebra.specs.Ring.{of_nat, power}
use Rattle.ore_algebra.specs.Free.{collect, coefficient, sum_at}
use Rattle.std.specs.Prelude.{ℤ}
use Rattle.std.specs.Ordering.{eq_by_cmp}
use Rattle.ore_algebra.proofs.Integers.{integers}
use Rattle.ore_algebra.proofs.RingMaps.{IsRingMap, sent-of_nat, sent-power, sent-cond, sent_terms, sum_at-sent}
use Rattle.ore_monomial.proofs.Operators
use Rattle.ore_monomial.specs.Numbers.{numbers, falling_over}
use Rattle.ore_monomial.proofs.FallingTerms.{sum_at-falling}
use Rattle.ore_monomial.specs.Monomial.{Monomial, exponent, with_exponent, lower, product, plain_cmp}
use Rattle.ore_monomial.specs.Signature.{Signature, kind_at}
use Rattle.ore_monomial.specs.Passing.{choose, numbers_to}
use Rattle.ore_monomial.specs.declared.signature.VarKind.{VarKind}
use Rattle.ore_monomial.specs.declared.signature.VarKind.TheVariants.{Coordinate, Constant, Plain, Differential, Shift, Delay}
use Rattle.ore_monomial.specs.LetterRule.{monomial_times}
use Rattle.ore_monomial.proofs.Letters.{one_term}
use Rattle.ore_commute.specs.ClosedForm.{step_sum, total_step, step_on, falling_factorial, number, axes}
use Rattle.ore_commute.proofs.FlatForm.{flat}
use Rattle.ore_commute.proofs.Axes.{pass_form}

map-flat : {A B C : Type 0} (g : B → C) (f : A → List B) (h : A → List C) (xs : List A) → ((x : A) → map g (f x) ≡ h x) → map g (flat_map f xs) ≡ flat_map h xs
map-flat g f h [] e = refl
map-flat g f h (x ∷ xs) e = map-append g (f x) (flat_map f xs) ∙ (λ i. e x i ++ map-flat g f h xs e i)

map-map : {A B C : Type 0} (g : B → C) (f : A → B) (h : A → C) (xs : List A) → ((x : A) → g (f x) ≡ h x) → map g (map f xs) ≡ map h xs
map-map g f h [] e = refl
map-map g f h (x ∷ xs) e = λ i. e x i ∷ map-map g f h xs e i

times_term : (K : Domain) → K.Number → Monomial × K.Number → Monomial × K.Number
times_term K k u = (u.0, K.times k u.1)

module _ (K L : Domain) (f : K.Number → L.Number) (r : IsRingMap K L f) where
  map-step_on : (t : ℕ) (k : VarKind) → f (step_on K t k) ≡ step_on L t k
  map-step_on t Coordinate = r.zero
  map-step_on t Constant = r.zero
  map-step_on t Plain = r.zero
  map-step_on t (Differential on) = r.zero
  map-step_on t (Shift on step) = sent-cond K L f r _ _ _ (sent-of_nat K L f r step)
  map-step_on t (Delay on step) = sent-cond K L f r _ _ _ (r.minus _ ∙ ap L.minus (sent-of_nat K L f r step))

  map-step_sum : (s : Signature) (t x : ℕ) (es : List ℕ) → f (step_sum K s t x es) ≡ step_sum L s t x es
  unfolding step_sum
  map-step_sum s t x [] = r.zero
  map-step_sum s t x (a ∷ es) = r.plus _ _ ∙ (λ i. L.plus ((r.times _ _ ∙ (λ j. L.times (sent-of_nat K L f r a j) (map-step_on t (kind_at s x) j))) i) (map-step_sum s t (suc x) es i))

  map-number : (h : K.Number) (h' : L.Number) → f h ≡ h' → (c a k j : ℕ) → f (number K h c a k j) ≡ number L h' c a k j
  unfolding number
  map-number h h' e c a k j = r.times _ _ ∙ (λ i. L.times (sent-of_nat K L f r (choose c k * falling_factorial a k) i) ((r.times _ _ ∙ (λ l. L.times (sent-of_nat K L f r (choose (a - k) j) l) ((sent-power K L f r h h' e j) l))) i))

  map_flat : (s : Signature) (ts : List (ℕ × ℕ)) (m n : Monomial) → sent_terms K L f (flat K s ts m n) ≡ flat L s ts m n
  unfolding flat total_step times_term
  map_flat s [] m n = λ i. (product m n, r.one i) ∷ []
  map_flat s (p ∷ ts) m n =
      map-flat send (λ k. flat_map (λ j. map (times_term K (N k j)) (flat K s ts (left k) (right k j))) (numbers_to (exponent n p.0 - k)))
      (λ k. flat_map (λ j. map (times_term L (N' k j)) (flat L s ts (left k) (right k j))) (numbers_to (exponent n p.0 - k))) (numbers_to (exponent m p.1))
      (λ k. map-flat send (λ j. map (times_term K (N k j)) (flat K s ts (left k) (right k j))) (λ j. map (times_term L (N' k j)) (flat L s ts (left k) (right k j))) (numbers_to (exponent n p.0 - k))
      (λ j. map-map send (times_term K (N k j)) (both k j) (flat K s ts (left k) (right k j)) (λ u i. (u.0, (r.times (N k j) u.1 ∙ ap (λ x. L.times x (f u.1)) (map-number (total_step K s p.0 m) (total_step L s p.0 m) (map-step_sum s p.0 0 m.exponents) (exponent m p.1) (exponent n p.0) k j)) i))
      ∙ sym (map-map (times_term L (N' k j)) send (both k j) (flat K s ts (left k) (right k j)) (λ u. refl))
      ∙ ap (map (times_term L (N' k j))) (map_flat s ts (left k) (right k j))))
    where
      send : Monomial × K.Number → Monomial × L.Number
      send u = (u.0, f u.1)

      left : ℕ → Monomial
      left k = lower p.1 k m

      right : ℕ → ℕ → Monomial
      right k j = with_exponent p.0 (exponent n p.0 - k - j) n

      N : ℕ → ℕ → K.Number
      N k j = number K (total_step K s p.0 m) (exponent m p.1) (exponent n p.0) k j

      N' : ℕ → ℕ → L.Number
      N' k j = number L (total_step L s p.0 m) (exponent m p.1) (exponent n p.0) k j

      both : ℕ → ℕ → Monomial × K.Number → Monomial × L.Number
      both k j u = (u.0, L.times (N' k j) (f u.1))

-- the product of monomials over L, by numbers over K, as whole numbers
pub pass_mapped : (K L : Domain) (f : K.Number → L.Number) → IsRingMap K L f → (s : Signature) (m n : Monomial)
    → monomial_times L s m (one_term L n) ≡ collect L plain_cmp (sent_terms K L f (flat K s (axes s) m n))
pass_mapped K L f r s m n = pass_form L s m n ∙ ap (collect L plain_cmp) (sym (map_flat K L f r s (axes s) m n))

-- the falling terms of the product over the whole numbers, mapped, make the product over L
module _ (L : Domain) (f : ℤ → L.Number) (r : IsRingMap integers L f) where
  pub numbers_mapped : (s : Signature) (m n : Monomial) → collect L plain_cmp (sent_terms integers L f (numbers s m n)) ≡ monomial_times L s m (one_term L n)
  unfolding numbers falling_over
  numbers_mapped s m n =
      Operators.same_sum L _ _ (λ q.
      Operators.coefficient-collect L _ q
      ∙ sum_at-sent integers L f r plain_cmp q _
      ∙ ap f (sum_at-falling integers s.order _ q ∙ ap (λ g. coefficient integers plain_cmp g q) (pass_form integers s m n) ∙ Operators.coefficient-collect integers _ q)
      ∙ sym (sum_at-sent integers L f r plain_cmp q _)
      ∙ sym (Operators.coefficient-collect L _ q))
      ∙ sym (pass_mapped integers L f r s m n)
