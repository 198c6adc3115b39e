-- What the letters do: each passes over its coordinate by one rule, and the rest commute.
--     one_term             a monomial as an operator
--     sum_to n F           F 0 + F 1 + .. + F n
--     pass_sum ps a u v    what passings over t^a give, where u e stands for t^e with the letter and v e for t^e without
--     collect-passed       a letter times a monomial, so written
--     CommutationRule      the rule x t = t x + alpha x + beta + gamma t of a letter x over its coordinate t
--     rule_of, by_rule     the rule of a kind; the sum that a rule makes of four operators
--     passes_none          over t^0 a letter stays as it is
--     passes_more          passing over one more t follows the rule
use Rattle.std.proofs.Common.{◌≡◌, ℕ, zero, suc, pred, ◌+◌, ◌-◌, ◌<◌, ◌≤◌, Bool, true, false, cond, List, [], ◌∷◌, map, refl, sym, ap, ◌∙◌, arith}
use Rattle.ore_algebra.specs.Ring.{of_nat, power}
use Rattle.ore_algebra.specs.Domain.{Domain}
use Rattle.ore_algebra.specs.Free.{empty_sum, single, plus, scale, collect}
use Rattle.ore_monomial.specs.Monomial.{Monomial, exponent, with_exponent, raise, lower, plain_cmp}
use Rattle.ore_monomial.specs.Passing.{Passing, passings, shift_passings, choose, numbers_to}
use Rattle.ore_monomial.specs.declared.signature.VarKind.{VarKind}
use Rattle.ore_monomial.specs.declared.signature.VarKind.TheVariants.{Coordinate, Constant, Plain, Differential, Shift, Delay}
use Rattle.ore_monomial.specs.LetterRule.{Operator}
use native.Mathlib.Nat
use Rattle.ore_algebra.proofs.DomainLaws as Numbers
use Rattle.ore_algebra.proofs.Linear.{IsLinear}
use Rattle.ore_monomial.proofs.Operators

module _ (K : Domain) where
  abbrev pub one_term : Monomial → Operator K
  one_term m = single K plain_cmp m K.one

  -- ---- sums up to a number

  unfoldable pub sum_to : ℕ → (ℕ → Operator K) → Operator K
  sum_to zero F = F 0
  sum_to (suc n) F = plus K plain_cmp (F 0) (sum_to n (λ j. F (suc j)))

  pub sum_to_last : (n : ℕ) (F : ℕ → Operator K) → sum_to (suc n) F ≡ plus K plain_cmp (sum_to n F) (F (suc n))
  unfolding sum_to
  sum_to_last zero F = refl
  sum_to_last (suc n) F = ap (plus K plain_cmp (F 0)) (sum_to_last n (λ j. F (suc j))) ∙ sym (Operators.plus_assoc K _ _ _)

  pub sum_to_same : (n : ℕ) (F G : ℕ → Operator K) → ((j : ℕ) → j ≤ n → F j ≡ G j) → sum_to n F ≡ sum_to n G
  unfolding sum_to
  sum_to_same zero F G e = e 0 (omega arith)
  sum_to_same (suc n) F G e = λ i. plus K plain_cmp (e 0 (omega arith) i) (sum_to_same n (λ j. F (suc j)) (λ j. G (suc j)) (λ j h. e (suc j) (omega arith)) i)

  pub sum_to-plus : (n : ℕ) (F G : ℕ → Operator K) → sum_to n (λ j. plus K plain_cmp (F j) (G j)) ≡ plus K plain_cmp (sum_to n F) (sum_to n G)
  unfolding sum_to
  sum_to-plus zero F G = refl
  sum_to-plus (suc n) F G = ap (plus K plain_cmp (plus K plain_cmp (F 0) (G 0))) (sum_to-plus n (λ j. F (suc j)) (λ j. G (suc j))) ∙ Operators.plus-swap K _ _ _ _

  pub sum_to-scale : (n : ℕ) (k : K.Number) (F : ℕ → Operator K) → sum_to n (λ j. scale K plain_cmp k (F j)) ≡ scale K plain_cmp k (sum_to n F)
  unfolding sum_to
  sum_to-scale zero k F = refl
  sum_to-scale (suc n) k F = ap (plus K plain_cmp (scale K plain_cmp k (F 0))) (sum_to-scale n k (λ j. F (suc j))) ∙ sym (Operators.scale-plus K k _ _)

  -- ---- what passing over t^a gives, where u e stands for t^e with the letter and v e for t^e without

  unfoldable pub pass_sum : List (Passing K) → ℕ → (ℕ → Operator K) → (ℕ → Operator K) → Operator K
  pass_sum [] a u v = empty_sum K plain_cmp
  pass_sum (p ∷ ps) a u v = plus K plain_cmp (scale K plain_cmp p.number (cond p.stays (u (a - p.falls)) (v (a - p.falls)))) (pass_sum ps a u v)

  cond-map : {A B : Type 0} (f : A → B) (b : Bool) (x y : A) → f (cond b x y) ≡ cond b (f x) (f y)
  cond-map f true x y = refl
  cond-map f false x y = refl

  pub collect-passed : (x t : ℕ) (m : Monomial) (ps : List (Passing K))
      → collect K plain_cmp (map (λ p. (cond p.stays (raise x (lower t p.falls m)) (lower t p.falls m), p.number)) ps)
      ≡ pass_sum ps (exponent m t) (λ e. one_term (raise x (with_exponent t e m))) (λ e. one_term (with_exponent t e m))
  unfolding pass_sum empty_sum
  collect-passed x t m [] = refl
  collect-passed x t m (p ∷ ps) = Operators.collect_more K _ _ _ ∙ (λ i. plus K plain_cmp ((Operators.single_scale K _ p.number ∙ ap (scale K plain_cmp p.number) (cond-map one_term p.stays (raise x (lower t p.falls m)) (lower t p.falls m))) i) (collect-passed x t m ps i))

  pub passed_same : (ps : List (Passing K)) (a : ℕ) (u v w z : ℕ → Operator K) → ((e : ℕ) → u e ≡ w e) → ((e : ℕ) → v e ≡ z e) → pass_sum ps a u v ≡ pass_sum ps a w z
  passed_same ps a u v w z p q = λ i. pass_sum ps a (λ e. p e i) (λ e. q e i)

  pub passed-linear : {S : Operator K → Operator K} → IsLinear K plain_cmp S → (ps : List (Passing K)) (a : ℕ) (u v : ℕ → Operator K) → S (pass_sum ps a u v) ≡ pass_sum ps a (λ e. S (u e)) (λ e. S (v e))
  unfolding pass_sum
  passed-linear l [] a u v = Operators.linear-empty_sum K l
  passed-linear {S} l (p ∷ ps) a u v =
      let x = u (a - p.falls) in let y = v (a - p.falls) in
      l.plus _ _ ∙ (λ i. plus K plain_cmp ((l.scale p.number (cond p.stays x y) ∙ ap (scale K plain_cmp p.number) (cond-map S p.stays x y)) i) (passed-linear l ps a u v i))

  -- ---- the rule of a letter x on t: x t = t x + alpha x + beta + gamma t

  pub record CommutationRule : Type 0 where
    pub alpha : K.Number
    pub beta : K.Number
    pub gamma : K.Number

  abbrev pub rule_of : VarKind → CommutationRule
  rule_of (Differential on) = record { alpha = K.zero; beta = K.one; gamma = K.zero }
  rule_of (Shift on step) = record { alpha = of_nat K.ring step; beta = K.zero; gamma = K.zero }
  rule_of (Delay on step) = record { alpha = K.minus (of_nat K.ring step); beta = K.zero; gamma = K.zero }
  rule_of kind = record { alpha = K.zero; beta = K.zero; gamma = K.zero }

  -- a, then alpha b, beta c and gamma d
  unfoldable pub by_rule : CommutationRule → Operator K → Operator K → Operator K → Operator K → Operator K
  by_rule r a b c d = plus K plain_cmp a (plus K plain_cmp (scale K plain_cmp r.alpha b) (plus K plain_cmp (scale K plain_cmp r.beta c) (scale K plain_cmp r.gamma d)))

  abbrev pub PassesMore : VarKind → Type 0
  PassesMore k = (a : ℕ) (u v : ℕ → Operator K) → pass_sum (passings K k (suc a)) (suc a) u v ≡ by_rule (rule_of k) (pass_sum (passings K k a) a (λ e. u (suc e)) (λ e. v (suc e))) (pass_sum (passings K k a) a u v) (v a) (v (suc a))

  abbrev pub PassesNone : VarKind → Type 0
  PassesNone k = (u v : ℕ → Operator K) → pass_sum (passings K k 0) 0 u v ≡ u 0

  passed_differential : (on a : ℕ) (u v : ℕ → Operator K) → pass_sum (passings K (Differential on) a) a u v ≡ plus K plain_cmp (u a) (scale K plain_cmp (of_nat K.ring a) (v (pred a)))
  unfolding pass_sum passings
  passed_differential on a u v =
      let p : a - 0 ≡ a = omega arith in
      let q : a - 1 ≡ pred a = omega arith in
      λ i. plus K plain_cmp ((Operators.scale_one K _ ∙ ap u p) i) ((Operators.plus_zero K _ ∙ ap (λ e. scale K plain_cmp (of_nat K.ring a) (v e)) q) i)

  differential_none : (on : ℕ) → PassesNone (Differential on)
  differential_none on u v = passed_differential on 0 u v ∙ ap (plus K plain_cmp (u 0)) (Operators.zero_scale K _) ∙ Operators.plus_zero K _

  differential_more : (on : ℕ) → PassesMore (Differential on)
  unfolding by_rule
  differential_more on a u v =
      passed_differential on (suc a) u v
      ∙ ap (plus K plain_cmp (u (suc a))) (Operators.plus-scale K K.one (of_nat K.ring a) (v a) ∙ ap (λ f. plus K plain_cmp f (scale K plain_cmp (of_nat K.ring a) (v a))) (Operators.scale_one K (v a)) ∙ Operators.plus_comm K _ _)
      ∙ sym (Operators.plus_assoc K _ _ _)
      ∙ ap (λ f. plus K plain_cmp f (v a)) (ap (plus K plain_cmp (u (suc a))) (up a) ∙ sym (passed_differential on a (λ e. u (suc e)) (λ e. v (suc e))))
      ∙ sym (ap (plus K plain_cmp _) (simp (Operators.zero_scale K, Operators.scale_one K, Operators.zero-plus K, Operators.plus_zero K)))
    where
      up : (a : ℕ) → scale K plain_cmp (of_nat K.ring a) (v a) ≡ scale K plain_cmp (of_nat K.ring a) (v (suc (pred a)))
      up zero = Operators.zero_scale K _ ∙ sym (Operators.zero_scale K _)
      up (suc a) = refl

  pub map_after : {A B : Type 0} (f : A → B) (g : ℕ → A) (xs : List ℕ) → map f (map g xs) ≡ map (λ j. f (g j)) xs
  map_after f g [] = refl
  map_after f g (x ∷ xs) = ap (λ ys. f (g x) ∷ ys) (map_after f g xs)

  passed_numbers : (F : ℕ → Passing K) (n a : ℕ) (u v : ℕ → Operator K) → pass_sum (map F (numbers_to n)) a u v ≡ sum_to n (λ j. scale K plain_cmp (F j).number (cond (F j).stays (u (a - (F j).falls)) (v (a - (F j).falls))))
  unfolding pass_sum sum_to numbers_to
  passed_numbers F zero a u v = Operators.plus_zero K _
  passed_numbers F (suc n) a u v = ap (plus K plain_cmp _) (ap (λ ps. pass_sum ps a u v) (map_after F suc (numbers_to n)) ∙ passed_numbers (λ j. F (suc j)) n a u v)

  unfoldable pub shift_term : K.Number → (ℕ → Operator K) → ℕ → ℕ → Operator K
  shift_term h u a j = scale K plain_cmp (K.times (of_nat K.ring (choose a j)) (power K.ring h j)) (u (a - j))

  shift_sum : (h : K.Number) (a : ℕ) (u v : ℕ → Operator K) → pass_sum (shift_passings K h a) a u v ≡ sum_to a (shift_term h u a)
  unfolding shift_passings shift_term
  shift_sum h a u v = passed_numbers _ a a u v

  pub of_nat-sum : (m n : ℕ) → of_nat K.ring (m + n) ≡ K.plus (of_nat K.ring m) (of_nat K.ring n)
  of_nat-sum m zero = ap (of_nat K.ring) (Nat.add-zero m) ∙ sym (K.plus_zero _)
  of_nat-sum m (suc n) = ap (of_nat K.ring) (Nat.add-suc m n) ∙ ap (K.plus K.one) (of_nat-sum m n) ∙ Numbers.plus_left_comm K _ _ _

  choose_above : (n k : ℕ) → n < k → choose n k ≡ 0
  unfolding choose
  choose_above n zero h = absurd (omega arith)
  choose_above zero (suc k) h = refl
  choose_above (suc n) (suc k) h = let p = choose_above n k (omega arith) in let q = choose_above n (suc k) (omega arith) in omega arith

  -- C(a+1,j+1) h^(j+1) u(a-j), in two parts
  pascal : (h : K.Number) (u : ℕ → Operator K) (a j : ℕ) → shift_term h u (suc a) (suc j) ≡ plus K plain_cmp (scale K plain_cmp h (shift_term h u a j)) (scale K plain_cmp (K.times (of_nat K.ring (choose a (suc j))) (power K.ring h (suc j))) (u (a - j)))
  unfolding shift_term choose
  pascal h u a j =
      let e : suc a - suc j ≡ a - j = omega arith in
      let first = of_nat K.ring (choose a j) in let second = of_nat K.ring (choose a (suc j)) in
      (λ i. scale K plain_cmp (K.times (of_nat-sum (choose a j) (choose a (suc j)) i) (K.times h (power K.ring h j))) (u (e i)))
      ∙ ap (λ k. scale K plain_cmp k (u (a - j))) (Numbers.plus_times K first second _ ∙ ap (λ k. K.plus k (K.times second (K.times h (power K.ring h j)))) (Numbers.times_left_comm K first h _))
      ∙ Operators.plus-scale K _ _ _
      ∙ ap (λ f. plus K plain_cmp f (scale K plain_cmp (K.times second (K.times h (power K.ring h j))) (u (a - j)))) (sym (Operators.scale-scale K h _ _))

  pub shift_sum_more : (h : K.Number) (u : ℕ → Operator K) (a : ℕ) → sum_to (suc a) (shift_term h u (suc a)) ≡ plus K plain_cmp (sum_to a (shift_term h (λ e. u (suc e)) a)) (scale K plain_cmp h (sum_to a (shift_term h u a)))
  unfolding sum_to shift_term choose
  shift_sum_more h u a =
      ap (plus K plain_cmp (shift_term h u (suc a) 0)) (sum_to_same a _ _ (λ j l. pascal h u a j) ∙ sum_to-plus a (λ j. scale K plain_cmp h (shift_term h u a j)) rest ∙ ap (λ f. plus K plain_cmp f (sum_to a rest)) (sum_to-scale a h (shift_term h u a)))
      ∙ Operators.plus-left_comm K _ _ _ ∙ Operators.plus_comm K _ _
      ∙ ap (λ f. plus K plain_cmp f (scale K plain_cmp h (sum_to a (shift_term h u a)))) joined
    where
      rest : ℕ → Operator K
      rest j = scale K plain_cmp (K.times (of_nat K.ring (choose a (suc j))) (power K.ring h (suc j))) (u (a - j))

      whole : ℕ → Operator K
      whole j = scale K plain_cmp (K.times (of_nat K.ring (choose a j)) (power K.ring h j)) (u (suc a - j))

      later : (j : ℕ) → j ≤ a → rest j ≡ whole (suc j)
      later j l = let e : a - j ≡ suc a - suc j = omega arith in ap (λ n. scale K plain_cmp (K.times (of_nat K.ring (choose a (suc j))) (power K.ring h (suc j))) (u n)) e

      last : whole (suc a) ≡ empty_sum K plain_cmp
      last = ap (λ n. scale K plain_cmp (K.times (of_nat K.ring n) (power K.ring h (suc a))) (u (suc a - suc a))) (choose_above a (suc a) (omega arith)) ∙ ap (λ k. scale K plain_cmp k (u (suc a - suc a))) (Numbers.zero_times K _) ∙ Operators.zero_scale K _

      up : (j : ℕ) → j ≤ a → whole j ≡ shift_term h (λ e. u (suc e)) a j
      up j l = let e : suc a - j ≡ suc (a - j) = omega arith in ap (λ n. scale K plain_cmp (K.times (of_nat K.ring (choose a j)) (power K.ring h j)) (u n)) e

      joined : plus K plain_cmp (shift_term h u (suc a) 0) (sum_to a rest) ≡ sum_to a (shift_term h (λ e. u (suc e)) a)
      joined = ap (plus K plain_cmp (shift_term h u (suc a) 0)) (sum_to_same a rest (λ j. whole (suc j)) later)
          ∙ sum_to_last a whole ∙ ap (plus K plain_cmp (sum_to a whole)) last ∙ Operators.plus_zero K _
          ∙ sum_to_same a whole _ up

  shift_more : (h : K.Number) (a : ℕ) (u v : ℕ → Operator K) → pass_sum (shift_passings K h (suc a)) (suc a) u v ≡ plus K plain_cmp (pass_sum (shift_passings K h a) a (λ e. u (suc e)) (λ e. v (suc e))) (scale K plain_cmp h (pass_sum (shift_passings K h a) a u v))
  shift_more h a u v = shift_sum h (suc a) u v ∙ shift_sum_more h u a ∙ sym (λ i. plus K plain_cmp (shift_sum h a (λ e. u (suc e)) (λ e. v (suc e)) i) (scale K plain_cmp h (shift_sum h a u v i)))

  shift_none : (h : K.Number) (u v : ℕ → Operator K) → pass_sum (shift_passings K h 0) 0 u v ≡ u 0
  unfolding sum_to shift_term choose
  shift_none h u v = shift_sum h 0 u v ∙ simp (K.times_one, K.plus_zero, Operators.scale_one K)

  pub passes_none : (k : VarKind) → PassesNone k
  unfolding passings pass_sum
  passes_none Coordinate u v = Operators.plus_zero K _ ∙ Operators.scale_one K _
  passes_none Constant u v = Operators.plus_zero K _ ∙ Operators.scale_one K _
  passes_none Plain u v = Operators.plus_zero K _ ∙ Operators.scale_one K _
  passes_none (Differential on) u v = differential_none on u v
  passes_none (Shift on step) u v = shift_none (of_nat K.ring step) u v
  passes_none (Delay on step) u v = shift_none (K.minus (of_nat K.ring step)) u v

  only_alpha : (h : K.Number) (a b c d : Operator K) → plus K plain_cmp a (scale K plain_cmp h b) ≡ by_rule record { alpha = h; beta = K.zero; gamma = K.zero } a b c d
  unfolding by_rule
  only_alpha h a b c d = simp (Operators.zero_scale K, Operators.plus_zero K)

  pub nothing_more : (a b c d : Operator K) → a ≡ by_rule record { alpha = K.zero; beta = K.zero; gamma = K.zero } a b c d
  unfolding by_rule
  nothing_more a b c d = simp (Operators.zero_scale K, Operators.plus_zero K)

  pub raised_plain : (a : ℕ) (u v : ℕ → Operator K) → pass_sum (record { number = K.one; falls = 0; stays = true } ∷ []) a u v ≡ u a
  unfolding pass_sum
  raised_plain a u v = let e : a - 0 ≡ a = omega arith in Operators.plus_zero K _ ∙ Operators.scale_one K _ ∙ ap u e

  unfoldable pub only_stays : List (Passing K)
  only_stays = record { number = K.one; falls = 0; stays = true } ∷ []

  plain_more : (a : ℕ) (u v : ℕ → Operator K) → pass_sum only_stays (suc a) u v ≡ by_rule record { alpha = K.zero; beta = K.zero; gamma = K.zero } (pass_sum only_stays a (λ e. u (suc e)) (λ e. v (suc e))) (pass_sum only_stays a u v) (v a) (v (suc a))
  unfolding only_stays
  plain_more a u v = raised_plain (suc a) u v ∙ sym (raised_plain a (λ e. u (suc e)) (λ e. v (suc e))) ∙ nothing_more _ _ _ _

  pub passes_more : (k : VarKind) → PassesMore k
  unfolding passings only_stays
  passes_more Coordinate a u v = plain_more a u v
  passes_more Constant a u v = plain_more a u v
  passes_more Plain a u v = plain_more a u v
  passes_more (Differential on) a u v = differential_more on a u v
  passes_more (Shift on step) a u v = shift_more (of_nat K.ring step) a u v ∙ only_alpha (of_nat K.ring step) _ _ _ _
  passes_more (Delay on step) a u v = shift_more (K.minus (of_nat K.ring step)) a u v ∙ only_alpha (K.minus (of_nat K.ring step)) _ _ _ _
