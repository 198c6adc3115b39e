-- The closed form of a product of two monomials, as one list of terms.
--     flat                   the closed form as one list of terms, zeros included
--     IsNew, AreNew          a coordinate is none of these; the coordinates are different
--     flat_form              the product of two monomials is what these terms make
use Rattle.std.proofs.Common.{◌≡◌, ◌≢◌, ℕ, zero, suc, ◌-◌, ◌*◌, ◌<◌, false, List, [], ◌∷◌, ◌++◌, map, refl, sym, ap, ◌∙◌}
use Rattle.std.specs.List.{flat_map}
use Rattle.ore_algebra.specs.Domain.{Domain}
use Rattle.ore_algebra.specs.Ring.{of_nat, power}
use Rattle.ore_algebra.specs.Free.{empty_sum, single, plus, scale, collect}
use Rattle.ore_commute.specs.ClosedForm.{falling_factorial, number, total_step}
use Rattle.ore_monomial.specs.Monomial.{Monomial, exponent, with_exponent, raise, lower, product, plain_cmp}
use Rattle.ore_monomial.specs.Signature.{Signature, kind_at, is_acting, IsLawful}
use Rattle.ore_monomial.specs.Passing.{choose, numbers_to}
use Rattle.ore_monomial.specs.LetterRule.{Operator, letter_times, power_times, monomial_times}
use Rattle.ore_monomial.proofs.Monomials.{exponent-other, with_comm, raise-with}
use Rattle.ore_monomial.proofs.Letters.{one_term, by_rule, sum_to, sum_to_same, sum_to-scale, shift_term}
use Rattle.ore_monomial.proofs.Commute.{letter-linear, letter_one, letter_still, over, rule_still, by_plain}
use Rattle.ore_monomial.proofs.Monomials.{product-raise, product_comm}
use Rattle.ore_commute.proofs.ClosedForm.{shifted, expand, expand-linear, closed, closed_form, AreAxes, IsClear}
use Rattle.ore_monomial.proofs.Operators

module _ (K : Domain) where
  collect-flat : (F : ℕ → List (Monomial × K.Number)) (n : ℕ) → collect K plain_cmp (flat_map F (numbers_to n)) ≡ sum_to K n (λ j. collect K plain_cmp (F j))
  unfolding numbers_to sum_to empty_sum
  collect-flat F zero = Operators.collect-append K (F 0) [] ∙ Operators.plus_zero K _
  collect-flat F (suc n) = Operators.collect-append K (F 0) _ ∙ ap (plus K plain_cmp (collect K plain_cmp (F 0))) (ap (collect K plain_cmp) (later F (numbers_to n)) ∙ collect-flat (λ j. F (suc j)) n)
    where
      later : (F : ℕ → List (Monomial × K.Number)) (xs : List ℕ) → flat_map F (map suc xs) ≡ flat_map (λ j. F (suc j)) xs
      later F [] = refl
      later F (x ∷ xs) = ap (λ ys. F (suc x) ++ ys) (later F xs)

  one_flat : (m : Monomial) → one_term K m ≡ collect K plain_cmp ((m, K.one) ∷ [])
  unfolding single
  one_flat m = refl

  expand-flat : (h : K.Number) (c a : ℕ) (F : ℕ → ℕ → List (Monomial × K.Number)) → expand K h c a (λ k e. collect K plain_cmp (F k e)) ≡ collect K plain_cmp (flat_map (λ k. flat_map (λ j. map (λ u. (u.0, K.times (number K h c a k j) u.1)) (F k (a - k - j))) (numbers_to (a - k))) (numbers_to c))
  unfolding expand shifted shift_term number
  expand-flat h c a F =
      sum_to_same K c _ _ (λ k l.
      sym (sum_to-scale K (a - k) (of_nat K.ring (choose c k * falling_factorial a k)) (λ j. scale K plain_cmp (K.times (of_nat K.ring (choose (a - k) j)) (power K.ring h j)) (collect K plain_cmp (F k (a - k - j)))))
      ∙ sum_to_same K (a - k) _ (λ j. collect K plain_cmp (map (λ u. (u.0, K.times (K.times (of_nat K.ring (choose c k * falling_factorial a k)) (K.times (of_nat K.ring (choose (a - k) j)) (power K.ring h j))) u.1)) (F k (a - k - j))))
      (λ j m. Operators.scale-scale K _ _ _ ∙ sym (Operators.collect-scaled K _ (F k (a - k - j))))
      ∙ sym (collect-flat (λ j. map (λ u. (u.0, K.times (K.times (of_nat K.ring (choose c k * falling_factorial a k)) (K.times (of_nat K.ring (choose (a - k) j)) (power K.ring h j))) u.1)) (F k (a - k - j))) (a - k)))
      ∙ sym (collect-flat (λ k. flat_map (λ j. map (λ u. (u.0, K.times (K.times (of_nat K.ring (choose c k * falling_factorial a k)) (K.times (of_nat K.ring (choose (a - k) j)) (power K.ring h j))) u.1)) (F k (a - k - j))) (numbers_to (a - k))) c)

module _ (K : Domain) (s : Signature) where
  unfoldable pub flat : List (ℕ × ℕ) → Monomial → Monomial → List (Monomial × K.Number)
  flat [] m n = (product m n, K.one) ∷ []
  flat (p ∷ ts) m n =
      flat_map (λ k. flat_map (λ j. map (λ u. (u.0, K.times (number K (total_step K s p.0 m) (exponent m p.1) (exponent n p.0) k j) u.1))
      (flat ts (lower p.1 k m) (with_exponent p.0 (exponent n p.0 - k - j) n)))
      (numbers_to (exponent n p.0 - k))) (numbers_to (exponent m p.1))

  -- t is none of these coordinates
  abbrev pub IsNew : ℕ → List (ℕ × ℕ) → Type 0
  IsNew t [] = Unit {0}
  IsNew t (p ∷ ts) = (t ≢ p.0) × IsNew t ts

  abbrev pub AreNew : List (ℕ × ℕ) → Type 0
  AreNew [] = Unit {0}
  AreNew (p ∷ ts) = IsNew p.0 ts × AreNew ts

module _ (K : Domain) (s : Signature) (lawful : IsLawful s) where
  still_commute : (x y : ℕ) → x < 12 → is_acting (kind_at s x) ≡ false → is_acting (kind_at s y) ≡ false → (f : Operator K) → letter_times K s x (letter_times K s y f) ≡ letter_times K s y (letter_times K s x f)
  still_commute x y xl hx hy f = over K s lawful x y xl hy f ∙ ap (λ r. by_rule K r (letter_times K s y (letter_times K s x f)) (letter_times K s x f) f (letter_times K s y f)) (rule_still K s x y hx) ∙ by_plain K _ _ _ _

  letter_power : (x y b : ℕ) → x < 12 → is_acting (kind_at s x) ≡ false → is_acting (kind_at s y) ≡ false → (f : Operator K) → letter_times K s x (power_times K s y b f) ≡ power_times K s y b (letter_times K s x f)
  unfolding power_times
  letter_power x y zero xl hx hy f = refl
  letter_power x y (suc b) xl hx hy f = still_commute x y xl hx hy _ ∙ ap (letter_times K s y) (letter_power x y b xl hx hy f)

  product-with : (t e : ℕ) (m n : Monomial) → t < 12 → raise t (product m (with_exponent t e n)) ≡ product m (with_exponent t (suc e) n)
  product-with t e m n h = ap (raise t) (product_comm m _) ∙ sym (product-raise t (with_exponent t e n) m h) ∙ product_comm _ m ∙ ap (product m) (raise-with t e n h)

  -- one more of t goes into the right monomial
  letter-closed : (t : ℕ) → t < 12 → is_acting (kind_at s t) ≡ false → (ts : List (ℕ × ℕ)) → AreAxes K s ts → IsNew K s t ts → (e : ℕ) (m n : Monomial) → letter_times K s t (closed K s ts m (with_exponent t e n)) ≡ closed K s ts m (with_exponent t (suc e) n)
  unfolding closed
  letter-closed t tl h [] axes new e m n = letter_one K s t _ ∙ letter_still K s t _ h ∙ ap (one_term K) (product-with t e m n tl)
  letter-closed t tl h (p ∷ ts) axes new e m n =
      let c = exponent m p.1 in
      let H = total_step K s p.0 m in
      let apart : p.0 ≢ t = λ q. new.0 (sym q) in
      expand-linear K (letter-linear K s t) H c _ _
      ∙ (λ i. expand K H c (exponent-other t p.0 e n apart i) (λ k b.
      (letter_power t p.0 b tl h axes.0.still _
      ∙ ap (power_times K s p.0 b) (ap (λ q. letter_times K s t (closed K s ts (lower p.1 k m) q)) (with_comm t p.0 e 0 n new.0)
      ∙ letter-closed t tl h ts axes.1 new.1 e (lower p.1 k m) (with_exponent p.0 0 n)
      ∙ ap (closed K s ts (lower p.1 k m)) (sym (with_comm t p.0 (suc e) 0 n new.0)))) i))
      ∙ (λ i. expand K H c (sym (exponent-other t p.0 (suc e) n apart) i) (λ k b. power_times K s p.0 b (closed K s ts (lower p.1 k m) (with_exponent p.0 0 (with_exponent t (suc e) n)))))

  power-closed : (t : ℕ) → t < 12 → is_acting (kind_at s t) ≡ false → (ts : List (ℕ × ℕ)) → AreAxes K s ts → IsNew K s t ts → (e : ℕ) (m n : Monomial) → power_times K s t e (closed K s ts m (with_exponent t 0 n)) ≡ closed K s ts m (with_exponent t e n)
  unfolding power_times
  power-closed t tl h ts axes new zero m n = refl
  power-closed t tl h ts axes new (suc e) m n = ap (letter_times K s t) (power-closed t tl h ts axes new e m n) ∙ letter-closed t tl h ts axes new e m n

  closed-flat : (ts : List (ℕ × ℕ)) → AreAxes K s ts → AreNew K s ts → (m n : Monomial) → closed K s ts m n ≡ collect K plain_cmp (flat K s ts m n)
  unfolding closed flat
  closed-flat [] axes new m n = one_flat K (product m n)
  closed-flat (p ∷ ts) axes new m n =
      let t = p.0 in
      let d = p.1 in
      let c = exponent m d in
      let a = exponent n t in
      let H = total_step K s t m in
      (λ i. expand K H c a (λ k e. (power-closed t axes.0.within axes.0.still ts axes.1 new.0 e (lower d k m) n ∙ closed-flat ts axes.1 new.1 (lower d k m) (with_exponent t e n)) i))
      ∙ expand-flat K H c a (λ k e. flat K s ts (lower d k m) (with_exponent t e n))

  -- the product of two monomials as one list of terms
  pub flat_form : (ts : List (ℕ × ℕ)) → AreAxes K s ts → AreNew K s ts → (m n : Monomial) → IsClear K s ts n → monomial_times K s m (one_term K n) ≡ collect K plain_cmp (flat K s ts m n)
  flat_form ts axes new m n clear = closed_form K s lawful ts axes m n clear ∙ closed-flat ts axes new m n
