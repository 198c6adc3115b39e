-- The closed form of a product of two monomials.
--     falling_next, choose_times    the numbers, each from the one before
--     shifted, expand        what shifts, and differential operators with shifts, make of a power of a coordinate
--     alpha_is               the rule of a letter adds its step
--     IsAxis                 t is a coordinate, and d its only differential operator
--     closed                 the closed form as a nested sum
--     closed_form            the product of two monomials is that sum
use Rattle.std.proofs.Common.{◌≡◌, ◌≢◌, ◌⊎◌, inl, inr, cond, true≢false, eqb, eq-eqb, ℕ, zero, suc, pred, ◌+◌, ◌-◌, ◌*◌, ◌<◌, ◌≤◌, Bool, true, false, List, [], ◌∷◌, length, get_or, set, replicate, refl, sym, ap, ◌∙◌, subst, arith}
use native.Mathlib.Nat
use borrow.Author.Tests.{eqb-true}
use native.Mathlib.Decide.{dec_le, dec_lt, ℕ_discrete}
use Rattle.ore_algebra.specs.Domain.{Domain}
use Rattle.ore_algebra.specs.Ring.{of_nat, power}
use Rattle.ore_algebra.specs.Free.{empty_sum, plus, scale}
use Rattle.ore_commute.specs.ClosedForm.{falling_factorial, step_on, step_sum, total_step}
use Rattle.ore_monomial.specs.declared.signature.VarKind.{VarKind}
use Rattle.ore_monomial.specs.declared.signature.VarKind.TheVariants.{Coordinate, Constant, Plain, Differential, Shift, Delay}
use Rattle.ore_monomial.specs.Monomial.{Monomial, exponent, with_exponent, raise, lower, unit, product, plain_cmp}
use Rattle.ore_monomial.specs.Signature.{Signature, kind_at, coordinate_of, is_acting, IsLawful}
use Rattle.ore_monomial.specs.Passing.{choose}
use Rattle.ore_monomial.specs.LetterRule.{Operator, letter, letter_times, power_times, monomial_times}
use Rattle.ore_algebra.proofs.DomainLaws as Numbers
use Rattle.ore_algebra.proofs.Linear.{IsLinear}
use Rattle.ore_monomial.proofs.Monomials.{exponent-same, exponent-other, with-with, with_own, exponent-raise, exponent-raise_other, exponent-unit, exponent-product, exponent_past, raise-with, raise-with_other, with-raise, by_first, IsBelow}
use Rattle.ore_monomial.proofs.Letters.{one_term, rule_of, by_rule, sum_to, sum_to_same, sum_to-plus, sum_to-scale, shift_term, shift_sum_more, of_nat-sum}
use Rattle.ore_monomial.proofs.Commute.{rule, rule_level, rule_acting, rule_other, letter-linear, letter_one, letter_still, letter_clear, over}
use Rattle.ore_monomial.proofs.MonomialProducts.{monomial_unit, monomial-raise}
use Rattle.ore_monomial.proofs.Monomials.{product-unit, product-raise}
use Rattle.ore_monomial.proofs.Operators

-- ---- numbers

pub falling_above : (a k : ℕ) → a < k → falling_factorial a k ≡ 0
unfolding falling_factorial
falling_above a zero h = absurd (omega arith)
falling_above zero (suc k) h = refl
falling_above (suc a) (suc k) h = ap (λ n. suc a * n) (falling_above a k (omega arith)) ∙ omega arith

pub falling_next : (a k : ℕ) → falling_factorial a (suc k) + k * falling_factorial a k ≡ a * falling_factorial a k
unfolding falling_factorial
falling_next zero zero = omega arith
falling_next zero (suc k) = omega arith
falling_next (suc a) zero = omega arith
falling_next (suc a) (suc k) = let e = ap (λ n. suc a * n) (falling_next a k) in omega arith

falling_more : (a k : ℕ) → falling_factorial (suc a) k ≡ falling_factorial a k + k * falling_factorial a (pred k)
unfolding falling_factorial
falling_more a zero = omega arith
falling_more a (suc k) = let e = falling_next a k in omega arith

pub choose_times : (c i : ℕ) → choose (suc c) (suc i) * suc i ≡ suc c * choose c i
unfolding choose
choose_times zero zero = omega arith
choose_times zero (suc i) = omega arith
choose_times (suc c) zero = let e = choose_times c zero in omega arith
choose_times (suc c) (suc i) = let e = choose_times c i in let f = choose_times c (suc i) in omega arith

module _ (K : Domain) where
  of_nat-times : (m n : ℕ) → of_nat K.ring (m * n) ≡ K.times (of_nat K.ring m) (of_nat K.ring n)
  of_nat-times zero n = ap (of_nat K.ring) (Nat.zero-mul n) ∙ sym (Numbers.zero_times K _)
  of_nat-times (suc m) n = ap (of_nat K.ring) (let e : suc m * n ≡ n + m * n = omega arith in e) ∙ of_nat-sum K n (m * n) ∙ (λ i. K.plus (sym (Numbers.one_times K (of_nat K.ring n)) i) (of_nat-times m n i)) ∙ sym (Numbers.plus_times K _ _ _)

  sum_none : (n : ℕ) → sum_to K n (λ j. empty_sum K plain_cmp) ≡ empty_sum K plain_cmp
  unfolding sum_to
  sum_none zero = refl
  sum_none (suc n) = Operators.zero-plus K _ ∙ sum_none n

  none_of : (n : ℕ) (f : Operator K) → n ≡ 0 → scale K plain_cmp (of_nat K.ring n) f ≡ empty_sum K plain_cmp
  none_of n f e = ap (λ m. scale K plain_cmp (of_nat K.ring m) f) e ∙ Operators.zero_scale K f

  -- what shifts by h make of t^n
  unfoldable pub shifted : K.Number → ℕ → (ℕ → Operator K) → Operator K
  shifted h n v = sum_to K n (shift_term K h v n)

  -- what c differentials and shifts by h in all make of t^a, where u k e is t^e with k differentials less
  unfoldable pub expand : K.Number → ℕ → ℕ → (ℕ → ℕ → Operator K) → Operator K
  expand h c a u = sum_to K c (λ k. scale K plain_cmp (of_nat K.ring (choose c k * falling_factorial a k)) (shifted h (a - k) (u k)))

  shifted_more : (h : K.Number) (n : ℕ) (v : ℕ → Operator K) → shifted h (suc n) v ≡ plus K plain_cmp (shifted h n (λ e. v (suc e))) (scale K plain_cmp h (shifted h n v))
  unfolding shifted
  shifted_more h n v = shift_sum_more K h v n

  expand_first : (h : K.Number) (u : ℕ → Operator K) → scale K plain_cmp (of_nat K.ring 1) (shifted h 0 u) ≡ u 0
  unfolding shifted sum_to shift_term choose
  expand_first h u = simp (K.plus_zero, K.times_one, Operators.scale_one K)

  expand_none : (h : K.Number) (c : ℕ) (u : ℕ → ℕ → Operator K) → expand h c 0 u ≡ u 0 0
  unfolding expand falling_factorial choose sum_to
  expand_none h zero u = expand_first h (u 0)
  expand_none h (suc c) u = (λ i. plus K plain_cmp (expand_first h (u 0) i) ((sum_to_same K c (λ k. scale K plain_cmp (of_nat K.ring (choose (suc c) (suc k) * 0)) (shifted h (0 - suc k) (u (suc k)))) (λ k. empty_sum K plain_cmp) (λ k l. none_of (choose (suc c) (suc k) * 0) _ (omega arith)) ∙ sum_none c) i)) ∙ Operators.plus_zero K _

  expand_part : (h : K.Number) (c a k : ℕ) (u : ℕ → ℕ → Operator K) → Operator K
  expand_part h c a k u = scale K plain_cmp (of_nat K.ring (choose c k * falling_factorial a k)) (shifted h (a - k) (u k))

  expand_is : (h : K.Number) (c a : ℕ) (u : ℕ → ℕ → Operator K) → expand h c a u ≡ sum_to K c (λ k. expand_part h c a k u)
  unfolding expand expand_part
  expand_is h c a u = refl

  -- where the differentials leave a shift over one more
  stays_part : (h : K.Number) (c a k : ℕ) (u : ℕ → ℕ → Operator K) → Dec (k ≤ a) → scale K plain_cmp (of_nat K.ring (choose c k * falling_factorial a k)) (shifted h (suc a - k) (u k)) ≡ plus K plain_cmp (expand_part h c a k (λ k e. u k (suc e))) (scale K plain_cmp h (expand_part h c a k u))
  unfolding expand_part
  stays_part h c a k u (yes l) =
      let e : suc a - k ≡ suc (a - k) = omega arith in
      ap (λ n. scale K plain_cmp (of_nat K.ring (choose c k * falling_factorial a k)) (shifted h n (u k))) e
      ∙ ap (scale K plain_cmp (of_nat K.ring (choose c k * falling_factorial a k))) (shifted_more h (a - k) (u k))
      ∙ Operators.scale-plus K _ _ _
      ∙ ap (plus K plain_cmp _) (Operators.scale-scale K _ _ _ ∙ ap (λ j. scale K plain_cmp j (shifted h (a - k) (u k))) (K.times_comm _ _) ∙ sym (Operators.scale-scale K _ _ _))
  stays_part h c a k u (no n) =
      let z : choose c k * falling_factorial a k ≡ 0 = ap (λ m. choose c k * m) (falling_above a k (omega arith)) ∙ omega arith in
      none_of _ _ z ∙ sym ((λ i. plus K plain_cmp (none_of _ (shifted h (a - k) (λ e. u k (suc e))) z i) (scale K plain_cmp h (none_of _ (shifted h (a - k) (u k)) z i))) ∙ ap (plus K plain_cmp (empty_sum K plain_cmp)) (Operators.scale-empty_sum K h) ∙ Operators.plus_zero K _)

  -- where a differential is spent
  spent_part : (h : K.Number) (c a k : ℕ) (u : ℕ → ℕ → Operator K) → Operator K
  spent_part h c a k u = scale K plain_cmp (of_nat K.ring (choose c k * (k * falling_factorial a (pred k)))) (shifted h (suc a - k) (u k))

  spent_sum : (h : K.Number) (c a : ℕ) (u : ℕ → ℕ → Operator K) → sum_to K c (λ k. spent_part h c a k u) ≡ scale K plain_cmp (of_nat K.ring c) (expand h (pred c) a (λ k. u (suc k)))
  unfolding spent_part sum_to expand_part
  spent_sum h zero a u = none_of (choose 0 0 * (0 * falling_factorial a 0)) _ (omega arith) ∙ sym (none_of 0 _ refl)
  spent_sum h (suc c) a u =
      (λ i. plus K plain_cmp (none_of (choose (suc c) 0 * (0 * falling_factorial a 0)) (shifted h (suc a - 0) (u 0)) (omega arith) i)
      ((sum_to_same K c _ (λ i. scale K plain_cmp (of_nat K.ring (suc c)) (expand_part h c a i (λ k. u (suc k)))) each ∙ sum_to-scale K c (of_nat K.ring (suc c)) (λ i. expand_part h c a i (λ k. u (suc k))) ∙ ap (scale K plain_cmp (of_nat K.ring (suc c))) (sym (expand_is h c a (λ k. u (suc k))))) i))
      ∙ Operators.zero-plus K _
    where
      each : (i : ℕ) → i ≤ c → scale K plain_cmp (of_nat K.ring (choose (suc c) (suc i) * (suc i * falling_factorial a i))) (shifted h (suc a - suc i) (u (suc i))) ≡ scale K plain_cmp (of_nat K.ring (suc c)) (expand_part h c a i (λ k. u (suc k)))
      each i l =
          let e : suc a - suc i ≡ a - i = omega arith in
          let t = ap (λ m. m * falling_factorial a i) (choose_times c i) in
          let n : choose (suc c) (suc i) * (suc i * falling_factorial a i) ≡ suc c * (choose c i * falling_factorial a i) = omega arith in
          (λ j. scale K plain_cmp (of_nat K.ring (n j)) (shifted h (e j) (u (suc i))))
          ∙ ap (λ k. scale K plain_cmp k (shifted h (a - i) (u (suc i)))) (of_nat-times (suc c) (choose c i * falling_factorial a i))
          ∙ sym (Operators.scale-scale K _ _ _)

  expand_more : (h : K.Number) (c a : ℕ) (u : ℕ → ℕ → Operator K) → expand h c (suc a) u ≡ plus K plain_cmp (expand h c a (λ k e. u k (suc e))) (plus K plain_cmp (scale K plain_cmp h (expand h c a u)) (scale K plain_cmp (of_nat K.ring c) (expand h (pred c) a (λ k. u (suc k)))))
  unfolding expand_part spent_part
  expand_more h c a u =
      expand_is h c (suc a) u
      ∙ sum_to_same K c _ (λ k. plus K plain_cmp (plus K plain_cmp (expand_part h c a k (λ k e. u k (suc e))) (scale K plain_cmp h (expand_part h c a k u))) (spent_part h c a k u)) (λ k l. each k)
      ∙ sum_to-plus K c _ _
      ∙ (λ i. plus K plain_cmp ((sum_to-plus K c (λ k. expand_part h c a k (λ k e. u k (suc e))) (λ k. scale K plain_cmp h (expand_part h c a k u)) ∙ (λ j. plus K plain_cmp (sym (expand_is h c a (λ k e. u k (suc e))) j) ((sum_to-scale K c h (λ k. expand_part h c a k u) ∙ ap (scale K plain_cmp h) (sym (expand_is h c a u))) j))) i) (spent_sum h c a u i))
      ∙ Operators.plus_assoc K _ _ _
    where
      each : (k : ℕ) → expand_part h c (suc a) k u ≡ plus K plain_cmp (plus K plain_cmp (expand_part h c a k (λ k e. u k (suc e))) (scale K plain_cmp h (expand_part h c a k u))) (spent_part h c a k u)
      each k =
          let e = falling_more a k in
          let n : choose c k * falling_factorial (suc a) k ≡ choose c k * falling_factorial a k + choose c k * (k * falling_factorial a (pred k)) = ap (λ m. choose c k * m) e ∙ omega arith in
          ap (λ m. scale K plain_cmp (of_nat K.ring m) (shifted h (suc a - k) (u k))) n
          ∙ ap (λ m. scale K plain_cmp m (shifted h (suc a - k) (u k))) (of_nat-sum K _ _)
          ∙ Operators.plus-scale K _ _ _
          ∙ ap (λ f. plus K plain_cmp f (spent_part h c a k u)) (stays_part h c a k u (dec_le k a))

-- ---- a whole monomial over a coordinate

module _ (K : Domain) (s : Signature) where
  -- the rule of a letter over t adds the step of its kind
  alpha_of : (k : VarKind) (t : ℕ) → (is_acting k ≡ false) ⊎ (coordinate_of k ≡ t) → (rule_of K k).alpha ≡ step_on K t k
  alpha_of Coordinate t h = refl
  alpha_of Constant t h = refl
  alpha_of Plain t h = refl
  alpha_of (Differential on) t h = refl
  alpha_of (Shift on step) t (inl h) = absurd (true≢false h)
  alpha_of (Shift on step) t (inr h) = ap (λ b. cond b (of_nat K.ring step) K.zero) (sym (eq-eqb on t h))
  alpha_of (Delay on step) t (inl h) = absurd (true≢false h)
  alpha_of (Delay on step) t (inr h) = ap (λ b. cond b (K.minus (of_nat K.ring step)) K.zero) (sym (eq-eqb on t h))

  apart_test : (a b : ℕ) → a ≢ b → eqb a b ≡ false
  apart_test a b h = by (eqb a b) refl
    where
      by : (c : Bool) → eqb a b ≡ c → c ≡ false
      by true e = absurd (h (eqb-true a b e))
      by false e = refl

  no_step : (k : VarKind) (t : ℕ) → coordinate_of k ≢ t → step_on K t k ≡ K.zero
  no_step Coordinate t h = refl
  no_step Constant t h = refl
  no_step Plain t h = refl
  no_step (Differential on) t h = refl
  no_step (Shift on step) t h = ap (λ b. cond b (of_nat K.ring step) K.zero) (apart_test on t h)
  no_step (Delay on step) t h = ap (λ b. cond b (K.minus (of_nat K.ring step)) K.zero) (apart_test on t h)

  pub alpha_is : (x t : ℕ) → (rule K s x t).alpha ≡ step_on K t (kind_at s x)
  alpha_is x t = by (ℕ_discrete (coordinate_of (kind_at s x)) t)
    where
      by : Dec (coordinate_of (kind_at s x) ≡ t) → (rule K s x t).alpha ≡ step_on K t (kind_at s x)
      by (yes e) = ap (λ r. r.alpha) (ap (rule K s x) (sym e) ∙ rule_acting K s x) ∙ alpha_of (kind_at s x) t (inr e)
      by (no n) = ap (λ r. r.alpha) (rule_other K s x t n) ∙ sym (no_step (kind_at s x) t n)

  step_sum-set : (t : ℕ) (es : List ℕ) (x j : ℕ) → j < length es → step_sum K s t x (set es j (suc (get_or es j 0))) ≡ K.plus (step_on K t (kind_at s (x + j))) (step_sum K s t x es)
  unfolding step_sum
  step_sum-set t [] x j h = absurd (omega arith)
  step_sum-set t (a ∷ es) x zero h =
      ap (λ k. K.plus k (step_sum K s t (suc x) es)) (Numbers.plus_times K K.one (of_nat K.ring a) (step_on K t (kind_at s x)) ∙ ap (λ k. K.plus k (K.times (of_nat K.ring a) (step_on K t (kind_at s x)))) (Numbers.one_times K _))
      ∙ K.plus_assoc _ _ _ ∙ ap (λ y. K.plus (step_on K t (kind_at s y)) (K.plus (K.times (of_nat K.ring a) (step_on K t (kind_at s x))) (step_sum K s t (suc x) es))) (sym (Nat.add-zero x))
  step_sum-set t (a ∷ es) x (suc j) h =
      let e : suc x + j ≡ x + suc j = omega arith in
      ap (K.plus (K.times (of_nat K.ring a) (step_on K t (kind_at s x)))) (step_sum-set t es (suc x) j (omega arith) ∙ ap (λ y. K.plus (step_on K t (kind_at s y)) (step_sum K s t (suc x) es)) e) ∙ Numbers.plus_left_comm K _ _ _

  step-raise : (t x : ℕ) (m : Monomial) → x < 12 → total_step K s t (raise x m) ≡ K.plus (rule K s x t).alpha (total_step K s t m)
  unfolding total_step with_exponent exponent
  step-raise t x m h = step_sum-set t m.exponents 0 x (subst (λ n. x < n) (sym m.twelve) h) ∙ ap (λ y. K.plus (step_on K t (kind_at s y)) (step_sum K s t 0 m.exponents)) (Nat.zero-add x) ∙ ap (λ k. K.plus k (step_sum K s t 0 m.exponents)) (sym (alpha_is x t))

  step_sum-unit : (t x n : ℕ) → step_sum K s t x (replicate n 0) ≡ K.zero
  unfolding step_sum
  step_sum-unit t x zero = refl
  step_sum-unit t x (suc n) = (λ i. K.plus (Numbers.zero_times K (step_on K t (kind_at s x)) i) (step_sum-unit t (suc x) n i)) ∙ K.plus_zero _

  step-unit : (t : ℕ) → total_step K s t unit ≡ K.zero
  unfolding total_step unit
  step-unit t = step_sum-unit t 0 12

  step_sum-kept : (t : ℕ) (es : List ℕ) (x j a : ℕ) → (step_on K t (kind_at s (x + j))) ≡ K.zero → step_sum K s t x (set es j a) ≡ step_sum K s t x es
  unfolding step_sum
  step_sum-kept t [] x j a h = refl
  step_sum-kept t (b ∷ es) x zero a h =
      let z : (step_on K t (kind_at s x)) ≡ K.zero = ap (λ y. (step_on K t (kind_at s y))) (sym (Nat.add-zero x)) ∙ h in
      ap (λ k. K.plus k (step_sum K s t (suc x) es)) (ap (K.times (of_nat K.ring a)) z ∙ Numbers.times_zero K _ ∙ sym (ap (K.times (of_nat K.ring b)) z ∙ Numbers.times_zero K _))
  step_sum-kept t (b ∷ es) x (suc j) a h =
      let e : suc x + j ≡ x + suc j = omega arith in
      ap (K.plus (K.times (of_nat K.ring b) (step_on K t (kind_at s x)))) (step_sum-kept t es (suc x) j a (ap (λ y. (step_on K t (kind_at s y))) e ∙ h))

  pub step-kept : (t x a : ℕ) (m : Monomial) → (step_on K t (kind_at s x)) ≡ K.zero → total_step K s t (with_exponent x a m) ≡ total_step K s t m
  unfolding total_step with_exponent
  step-kept t x a m h = step_sum-kept t m.exponents 0 x a (ap (λ y. (step_on K t (kind_at s y))) (Nat.zero-add x) ∙ h)

  -- t is a coordinate, and d its only differential
  pub record IsAxis (t d : ℕ) : Type 0 where
    pub within : t < 12
    pub still : is_acting (kind_at s t) ≡ false
    pub only : (x : ℕ) → x ≢ d → (rule K s x t).beta ≡ K.zero
    pub unit : d < 12 → (rule K s d t).beta ≡ K.one
    pub straight : (rule K s d t).alpha ≡ K.zero

module _ (K : Domain) (s : Signature) (lawful : IsLawful s) (t d : ℕ) (axis : IsAxis K s t d) where
  join : (T X Y Z C : Operator K) (j h : K.Number) → plus K plain_cmp Y Z ≡ C → plus K plain_cmp (plus K plain_cmp T (plus K plain_cmp (scale K plain_cmp j X) Y)) (plus K plain_cmp (scale K plain_cmp h X) Z) ≡ plus K plain_cmp T (plus K plain_cmp (scale K plain_cmp (K.plus j h) X) C)
  join T X Y Z C j h e =
      Operators.plus_assoc K _ _ _
      ∙ ap (plus K plain_cmp T) (Operators.plus-swap K _ _ _ _ ∙ (λ i. plus K plain_cmp (sym (Operators.plus-scale K j h X) i) (e i)))

  -- a monomial over one more of t
  monomial_over : (m : Monomial) (f : Operator K) → monomial_times K s m (letter_times K s t f) ≡ plus K plain_cmp (letter_times K s t (monomial_times K s m f)) (plus K plain_cmp (scale K plain_cmp (total_step K s t m) (monomial_times K s m f)) (scale K plain_cmp (of_nat K.ring (exponent m d)) (monomial_times K s (lower d 1 m) f)))
  unfolding by_rule
  monomial_over m f = by_first P at_unit more m
    where
      P : Monomial → Type 0
      P m = monomial_times K s m (letter_times K s t f) ≡ plus K plain_cmp (letter_times K s t (monomial_times K s m f)) (plus K plain_cmp (scale K plain_cmp (total_step K s t m) (monomial_times K s m f)) (scale K plain_cmp (of_nat K.ring (exponent m d)) (monomial_times K s (lower d 1 m) f)))

      at_unit : P unit
      at_unit =
          monomial_unit K s _
          ∙ sym ((λ i. plus K plain_cmp (letter_times K s t (monomial_unit K s f i)) (plus K plain_cmp ((ap (λ k. scale K plain_cmp k (monomial_times K s unit f)) (step-unit K s t) ∙ Operators.zero_scale K _) i) (none_of K (exponent unit d) (monomial_times K s (lower d 1 unit) f) (exponent-unit d) i)))
          ∙ ap (plus K plain_cmp _) (Operators.plus_zero K _) ∙ Operators.plus_zero K _)

      below_lower : (x : ℕ) (m : Monomial) → IsBelow x m → IsBelow x (lower d 1 m)
      below_lower x m b y l = by (ℕ_discrete y d) (dec_lt d 12)
        where
          by : Dec (y ≡ d) → Dec (d < 12) → exponent (lower d 1 m) y ≡ 0
          by (no n) e = exponent-other d y _ m n ∙ b y l
          by (yes e) (yes k) = ap (exponent (lower d 1 m)) e ∙ exponent-same d _ m k ∙ (let z : exponent m d ≡ 0 = ap (exponent m) (sym e) ∙ b y l in omega arith)
          by (yes e) (no k) = exponent_past y _ (let p : d ≡ y = sym e in omega arith)

      own : (m : Monomial) → d < 12 → IsBelow d m → plus K plain_cmp (plus K plain_cmp (scale K plain_cmp (rule K s d t).beta (monomial_times K s m f)) (scale K plain_cmp (rule K s d t).gamma (letter_times K s t (monomial_times K s m f)))) (scale K plain_cmp (of_nat K.ring (exponent m d)) (letter_times K s d (monomial_times K s (lower d 1 m) f)))
          ≡ scale K plain_cmp (of_nat K.ring (exponent (raise d m) d)) (monomial_times K s (lower d 1 (raise d m)) f)
      own m dl b =
          let p = exponent-raise d m dl in
          let q : exponent (raise d m) d - 1 ≡ exponent m d = omega arith in
          let A = monomial_times K s m f in
          (λ i. plus K plain_cmp (plus K plain_cmp ((ap (λ k. scale K plain_cmp k A) (axis.unit dl) ∙ Operators.scale_one K A) i) ((ap (λ k. scale K plain_cmp k (letter_times K s t A)) (rule_level K s d t) ∙ Operators.zero_scale K _) i)) (again (exponent m d) refl i))
          ∙ ap (λ g. plus K plain_cmp g (scale K plain_cmp (of_nat K.ring (exponent m d)) A)) (Operators.plus_zero K A ∙ sym (Operators.scale_one K A))
          ∙ sym (Operators.plus-scale K K.one (of_nat K.ring (exponent m d)) A)
          ∙ (λ i. scale K plain_cmp (of_nat K.ring (sym p i)) (monomial_times K s (sym (ap (λ k. with_exponent d k (raise d m)) q ∙ with-raise d (exponent m d) m ∙ with_own d m) i) f))
        where
          again : (c : ℕ) → exponent m d ≡ c → scale K plain_cmp (of_nat K.ring (exponent m d)) (letter_times K s d (monomial_times K s (lower d 1 m) f)) ≡ scale K plain_cmp (of_nat K.ring (exponent m d)) (monomial_times K s m f)
          again zero e = none_of K (exponent m d) _ e ∙ sym (none_of K (exponent m d) _ e)
          again (suc c) e =
              let back : suc (exponent m d - 1) ≡ exponent m d = omega arith in
              ap (scale K plain_cmp (of_nat K.ring (exponent m d))) (sym (monomial-raise K s d (lower d 1 m) f dl (below_lower d m b)) ∙ ap (λ q. monomial_times K s q f) (raise-with d (exponent m d - 1) m dl ∙ ap (λ k. with_exponent d k m) back ∙ with_own d m))

      rest : (x : ℕ) (m : Monomial) → x < 12 → IsBelow x m → Dec (x ≡ d)
          → plus K plain_cmp (plus K plain_cmp (scale K plain_cmp (rule K s x t).beta (monomial_times K s m f)) (scale K plain_cmp (rule K s x t).gamma (letter_times K s t (monomial_times K s m f)))) (scale K plain_cmp (of_nat K.ring (exponent m d)) (letter_times K s x (monomial_times K s (lower d 1 m) f)))
          ≡ scale K plain_cmp (of_nat K.ring (exponent (raise x m) d)) (monomial_times K s (lower d 1 (raise x m)) f)
      rest x m xl b (no n) =
          let p = exponent-raise_other x d m (λ e. n (sym e)) in
          (λ i. plus K plain_cmp ((no_scale (axis.only x n) (monomial_times K s m f)) i) (scale K plain_cmp (of_nat K.ring (exponent m d)) (letter_times K s x (monomial_times K s (lower d 1 m) f))))
          ∙ Operators.zero-plus K _
          ∙ (λ i. scale K plain_cmp (of_nat K.ring (sym p i)) ((sym (monomial-raise K s x (lower d 1 m) f xl (below_lower x m b)) ∙ ap (λ q. monomial_times K s q f) (raise-with_other d x (exponent m d - 1) m (λ e. n (sym e)) ∙ ap (λ k. with_exponent d (k - 1) (raise x m)) (sym p))) i))
        where
          no_scale : (rule K s x t).beta ≡ K.zero → (A : Operator K) → plus K plain_cmp (scale K plain_cmp (rule K s x t).beta A) (scale K plain_cmp (rule K s x t).gamma (letter_times K s t A)) ≡ empty_sum K plain_cmp
          no_scale e A = (λ i. plus K plain_cmp ((ap (λ k. scale K plain_cmp k A) e ∙ Operators.zero_scale K A) i) ((ap (λ k. scale K plain_cmp k (letter_times K s t A)) (rule_level K s x t) ∙ Operators.zero_scale K _) i)) ∙ Operators.plus_zero K _
      rest x m xl b (yes e) = subst (λ x. x < 12 → IsBelow x m → plus K plain_cmp (plus K plain_cmp (scale K plain_cmp (rule K s x t).beta (monomial_times K s m f)) (scale K plain_cmp (rule K s x t).gamma (letter_times K s t (monomial_times K s m f)))) (scale K plain_cmp (of_nat K.ring (exponent m d)) (letter_times K s x (monomial_times K s (lower d 1 m) f)))
          ≡ scale K plain_cmp (of_nat K.ring (exponent (raise x m) d)) (monomial_times K s (lower d 1 (raise x m)) f)) (sym e) (own m) xl b

      more : (x : ℕ) → x < 12 → (m : Monomial) → IsBelow x m → P m → P (raise x m)
      more x xl m b ih =
          let X = monomial-raise K s x m f xl b in
          monomial-raise K s x m _ xl b
          ∙ ap (letter_times K s x) ih
          ∙ (letter-linear K s x).plus _ _
          ∙ (λ i. plus K plain_cmp (over K s lawful x t xl axis.still (monomial_times K s m f) i) (((letter-linear K s x).plus _ _ ∙ (λ j. plus K plain_cmp ((letter-linear K s x).scale (total_step K s t m) (monomial_times K s m f) j) ((letter-linear K s x).scale (of_nat K.ring (exponent m d)) (monomial_times K s (lower d 1 m) f) j))) i))
          ∙ join _ _ _ _ _ (rule K s x t).alpha (total_step K s t m) (rest x m xl b (ℕ_discrete x d))
          ∙ (λ i. plus K plain_cmp (letter_times K s t (sym X i)) (plus K plain_cmp (scale K plain_cmp (sym (step-raise K s t x m xl) i) (sym X i)) (scale K plain_cmp (of_nat K.ring (exponent (raise x m) d)) (monomial_times K s (lower d 1 (raise x m)) f))))

module _ (K : Domain) where
  sum_to-linear : {S : Operator K → Operator K} → IsLinear K plain_cmp S → (n : ℕ) (F : ℕ → Operator K) → S (sum_to K n F) ≡ sum_to K n (λ j. S (F j))
  unfolding sum_to
  sum_to-linear l zero F = refl
  sum_to-linear {S} l (suc n) F = l.plus _ _ ∙ ap (plus K plain_cmp (S (F 0))) (sum_to-linear l n (λ j. F (suc j)))

  shifted-linear : {S : Operator K → Operator K} → IsLinear K plain_cmp S → (h : K.Number) (n : ℕ) (v : ℕ → Operator K) → S (shifted K h n v) ≡ shifted K h n (λ e. S (v e))
  unfolding shifted shift_term
  shifted-linear l h n v = sum_to-linear l n (shift_term K h v n) ∙ sum_to_same K n _ _ (λ j k. l.scale (K.times (of_nat K.ring (choose n j)) (power K.ring h j)) (v (n - j)))

  pub expand-linear : {S : Operator K → Operator K} → IsLinear K plain_cmp S → (h : K.Number) (c a : ℕ) (u : ℕ → ℕ → Operator K) → S (expand K h c a u) ≡ expand K h c a (λ k e. S (u k e))
  unfolding expand
  expand-linear l h c a u = sum_to-linear l c (λ k. scale K plain_cmp (of_nat K.ring (choose c k * falling_factorial a k)) (shifted K h (a - k) (u k)))
      ∙ sum_to_same K c _ _ (λ k j. l.scale (of_nat K.ring (choose c k * falling_factorial a k)) (shifted K h (a - k) (u k)) ∙ ap (scale K plain_cmp (of_nat K.ring (choose c k * falling_factorial a k))) (shifted-linear l h (a - k) (u k)))

module _ (K : Domain) (s : Signature) (lawful : IsLawful s) (t d : ℕ) (axis : IsAxis K s t d) where
  -- to lower d again
  lower-lower : (k : ℕ) (m : Monomial) → lower d k (lower d 1 m) ≡ lower d (suc k) m
  lower-lower k m = by (dec_lt d 12)
    where
      by : Dec (d < 12) → lower d k (lower d 1 m) ≡ lower d (suc k) m
      by (yes h) = let e : exponent (lower d 1 m) d - k ≡ exponent m d - suc k = (let p = exponent-same d (exponent m d - 1) m h in omega arith) in with-with d _ _ m ∙ ap (λ n. with_exponent d n m) e
      by (no n) = let a = exponent_past d m (omega arith) in let b = exponent_past d (lower d 1 m) (omega arith) in let e : exponent (lower d 1 m) d - k ≡ exponent m d - suc k = omega arith in with-with d _ _ m ∙ ap (λ n. with_exponent d n m) e

  lower_once : (m : Monomial) → exponent (lower d 1 m) d ≡ pred (exponent m d)
  lower_once m = by (dec_lt d 12)
    where
      by : Dec (d < 12) → exponent (lower d 1 m) d ≡ pred (exponent m d)
      by (yes h) = exponent-same d (exponent m d - 1) m h ∙ omega arith
      by (no n) = let a = exponent_past d m (omega arith) in let b = exponent_past d (lower d 1 m) (omega arith) in omega arith

  lower_none : (m : Monomial) → lower d 0 m ≡ m
  lower_none m = let e : exponent m d - 0 ≡ exponent m d = omega arith in ap (λ n. with_exponent d n m) e ∙ with_own d m

  -- a monomial over a power of t
  pub monomial_over_power : (a : ℕ) (m : Monomial) (f : Operator K) → monomial_times K s m (power_times K s t a f) ≡ expand K (total_step K s t m) (exponent m d) a (λ k e. power_times K s t e (monomial_times K s (lower d k m) f))
  unfolding power_times
  monomial_over_power zero m f = ap (λ q. monomial_times K s q f) (sym (lower_none m)) ∙ sym (expand_none K (total_step K s t m) (exponent m d) (λ k e. power_times K s t e (monomial_times K s (lower d k m) f)))
  monomial_over_power (suc a) m f =
      monomial_over K s lawful t d axis m (power_times K s t a f)
      ∙ (λ i. plus K plain_cmp
      ((ap (letter_times K s t) (monomial_over_power a m f) ∙ expand-linear K (letter-linear K s t) h (exponent m d) a u) i)
      (plus K plain_cmp (scale K plain_cmp h (monomial_over_power a m f i))
      (scale K plain_cmp (of_nat K.ring (exponent m d)) ((monomial_over_power a (lower d 1 m) f
      ∙ (λ j. expand K (step-kept K s t d (exponent m d - 1) m (sym (alpha_is K s d t) ∙ axis.straight) j) (lower_once m j) a (λ k e. power_times K s t e (monomial_times K s (lower-lower k m j) f)))) i))))
      ∙ sym (expand_more K h (exponent m d) a u)
    where
      h : K.Number
      h = total_step K s t m

      u : ℕ → ℕ → Operator K
      u k e = power_times K s t e (monomial_times K s (lower d k m) f)

-- ---- the product of two monomials

module _ (K : Domain) (s : Signature) where
  -- each coordinate t of the list, with its differential d, is passed in turn
  unfoldable pub closed : List (ℕ × ℕ) → Monomial → Monomial → Operator K
  closed [] m n = one_term K (product m n)
  closed (p ∷ ts) m n = expand K (total_step K s p.0 m) (exponent m p.1) (exponent n p.0) (λ k e. power_times K s p.0 e (closed ts (lower p.1 k m) (with_exponent p.0 0 n)))

  abbrev pub AreAxes : List (ℕ × ℕ) → Type 0
  AreAxes [] = Unit {0}
  AreAxes (p ∷ ts) = IsAxis K s p.0 p.1 × AreAxes ts

  -- no letter acts on what is left of n without these coordinates
  abbrev pub IsClear : List (ℕ × ℕ) → Monomial → Type 0
  IsClear [] n = (x : ℕ) → is_acting (kind_at s x) ≡ true → exponent n (coordinate_of (kind_at s x)) ≡ 0
  IsClear (p ∷ ts) n = IsClear ts (with_exponent p.0 0 n)

module _ (K : Domain) (s : Signature) (lawful : IsLawful s) where
  clear_product : (m n : Monomial) → IsClear K s [] n → monomial_times K s m (one_term K n) ≡ one_term K (product m n)
  clear_product m n c = by_first (λ m. monomial_times K s m (one_term K n) ≡ one_term K (product m n))
      (monomial_unit K s _ ∙ ap (one_term K) (sym (product-unit n)))
      (λ x xl m b ih. monomial-raise K s x m _ xl b ∙ ap (letter_times K s x) ih ∙ letter_one K s x (product m n) ∙ raised x m b (is_acting (kind_at s x)) refl ∙ ap (one_term K) (sym (product-raise x m n xl)))
      m
    where
      raised : (x : ℕ) (m : Monomial) → IsBelow x m → (a : Bool) → is_acting (kind_at s x) ≡ a → letter K s x (product m n) ≡ one_term K (raise x (product m n))
      raised x m b false h = letter_still K s x _ h
      raised x m b true h = letter_clear K s x _ (let p = exponent-product m n (coordinate_of (kind_at s x)) in let q = b _ (lawful x h).0 in let r = c x h in omega arith)

  power_one : (t : ℕ) → t < 12 → is_acting (kind_at s t) ≡ false → (a : ℕ) (n : Monomial) → power_times K s t a (one_term K (with_exponent t 0 n)) ≡ one_term K (with_exponent t a n)
  unfolding power_times
  power_one t tl h zero n = refl
  power_one t tl h (suc a) n = ap (letter_times K s t) (power_one t tl h a n) ∙ letter_one K s t _ ∙ letter_still K s t _ h ∙ ap (one_term K) (raise-with t a n tl)

  -- the product of two monomials by the closed form
  pub closed_form : (ts : List (ℕ × ℕ)) → AreAxes K s ts → (m n : Monomial) → IsClear K s ts n → monomial_times K s m (one_term K n) ≡ closed K s ts m n
  unfolding closed
  closed_form [] axes m n c = clear_product m n c
  closed_form (p ∷ ts) axes m n c =
      ap (monomial_times K s m) (sym (power_one p.0 axes.0.within axes.0.still (exponent n p.0) n ∙ ap (one_term K) (with_own p.0 n)))
      ∙ monomial_over_power K s lawful p.0 p.1 axes.0 (exponent n p.0) m (one_term K (with_exponent p.0 0 n))
      ∙ (λ i. expand K (total_step K s p.0 m) (exponent m p.1) (exponent n p.0) (λ k e. power_times K s p.0 e (closed_form ts axes.1 (lower p.1 k m) (with_exponent p.0 0 n) c i)))
