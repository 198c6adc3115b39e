-- The laws of finite sums of terms.
--     weigh w ts            the sum over the terms of each coefficient times what w gives at its key
--     total w f             the same of a finite sum: the functional that takes each key m to w m
--     at q                  the functional that reads the coefficient at q
--     named q ts            some term has the key q
--     same_sum              two sums are equal where their coefficients are
--     same_totals           and where every functional gives the same of both
--     total_only            the total where all parts but one vanish
--     total-plus, coefficient-plus, ..    laws, named by their left sides
use Rattle.std.proofs.Common.{◌≡◌, ◌≢◌, ℕ, zero, suc, ◌≤◌, Bool, true, false, cond, ◌&&◌, T, List, [], ◌∷◌, ◌++◌, map, length, refl, sym, ap, ◌∙◌, subst, true≢false, arith}
use mathlib.Core.HLevel.{Σ_prop_path, ¬_prop}
use Rattle.std.specs.declared.cmp.Ordering.{Ordering}
use Rattle.std.specs.declared.cmp.Ordering.TheVariants.{Less, Equal, Greater}
use Rattle.std.specs.declared.option.Option.{Option}
use Rattle.std.specs.declared.option.Option.TheVariants.{None, Some}
use Rattle.std.specs.Ordering.{eq_by_cmp, is_eq, is_lt}
use Rattle.std.specs.Cmp.{IsTotalOrder, tied_itself, eq_by_cmp_equiv, Equal-is}
use Rattle.std.specs.List.{flat_map}
use Rattle.std.specs.FinMap.Entries.{below_all, is_sorted}
use Rattle.std.specs.FinMap.{entries, entries_sorted, find, get-from_entries, get-entries, same_map, IsAntisymmetric}
use Rattle.ore_algebra.specs.Domain.{Domain}
use Rattle.ore_algebra.specs.Free.{NonZero, non_zero_of, value_or_zero, sum_at, summed, Free, coefficient, terms, collect, empty_sum, single, plus, scale, linear_extension}
use Rattle.ore_algebra.proofs.DomainLaws.{zero_plus, plus_left_comm, one_times, times_zero, zero_times, times_left_comm, plus_swap, plus_times, minus_times, plus_cancel}

same_non_zero : (K : Domain) (u v : NonZero K) → u.value ≡ v.value → u ≡ v
same_non_zero K u v e =
    let pairs : ◌≡◌ {A = (x : K.Number) × (x ≢ K.zero)} (u.value, u.apart) (v.value, v.apart) = Σ_prop_path (λ x. ¬_prop) e in
    λ i. record { value = (pairs i).0; apart = (pairs i).1 }

pub non_zero_again : (K : Domain) (u : NonZero K) → non_zero_of K u.value ≡ u
non_zero_again K u = by (K.discrete u.value K.zero)
  where
    by : (d : Dec (u.value ≡ K.zero)) → elim d [ yes e ↦ record { value = K.one; apart = K.one_apart } | no n ↦ record { value = u.value; apart = n } ] ≡ u
    by (yes e) = absurd (u.apart e)
    by (no n) = same_non_zero K _ u refl

-- the sum over a list of terms of each coefficient times what w gives at its key
unfoldable pub weigh : (K : Domain) {M : Type 0} → (M → K.Number) → List (M × K.Number) → K.Number
weigh K w [] = K.zero
weigh K w (t ∷ ts) = K.plus (K.times t.1 (w t.0)) (weigh K w ts)

module _ (K : Domain) {M : Type 0} where
  pub weigh-append : (w : M → K.Number) (ts us : List (M × K.Number)) → weigh K w (ts ++ us) ≡ K.plus (weigh K w ts) (weigh K w us)
  unfolding weigh
  weigh-append w [] us = sym (zero_plus K _)
  weigh-append w (t ∷ ts) us = ap (K.plus (K.times t.1 (w t.0))) (weigh-append w ts us) ∙ sym (K.plus_assoc _ _ _)

  pub weigh-scaled : (w : M → K.Number) (k : K.Number) (ts : List (M × K.Number)) → weigh K w (map (λ t. (t.0, K.times k t.1)) ts) ≡ K.times k (weigh K w ts)
  unfolding weigh
  weigh-scaled w k [] = sym (times_zero K k)
  weigh-scaled w k (t ∷ ts) = (λ i. K.plus (K.times_assoc k t.1 (w t.0) i) (weigh-scaled w k ts i)) ∙ sym (K.times_plus k _ _)

  weigh_sum : (w v : M → K.Number) (ts : List (M × K.Number)) → weigh K (λ m. K.plus (w m) (v m)) ts ≡ K.plus (weigh K w ts) (weigh K v ts)
  unfolding weigh
  weigh_sum w v [] = sym (K.plus_zero K.zero)
  weigh_sum w v (t ∷ ts) = (λ i. K.plus (K.times_plus t.1 (w t.0) (v t.0) i) (weigh_sum w v ts i)) ∙ plus_swap K _ _ _ _

  weigh_multiple : (k : K.Number) (w : M → K.Number) (ts : List (M × K.Number)) → weigh K (λ m. K.times k (w m)) ts ≡ K.times k (weigh K w ts)
  unfolding weigh
  weigh_multiple k w [] = sym (times_zero K k)
  weigh_multiple k w (t ∷ ts) = (λ i. K.plus (times_left_comm K t.1 k (w t.0) i) (weigh_multiple k w ts i)) ∙ sym (K.times_plus k _ _)

module _ (K : Domain) {M : Type 0} {R : M → M → Ordering} (o : IsTotalOrder R) (same : IsAntisymmetric R) where
  pub same_key : (q m : M) → eq_by_cmp R q m ≡ true → q ≡ m
  same_key q m e = same q m ((Equal-is _).0 e)

  pub at : M → M → K.Number
  at q m = cond (eq_by_cmp R q m) K.one K.zero

  at_own : (q : M) → at q q ≡ K.one
  unfolding at
  at_own q = ap (λ r. cond (is_eq r) K.one K.zero) (tied_itself o q)

  times_cond : (b : Bool) (x : K.Number) → cond b x K.zero ≡ K.times x (cond b K.one K.zero)
  times_cond true x = sym (K.times_one x)
  times_cond false x = sym (times_zero K x)

  sum_at-weigh : (q : M) (ts : List (M × K.Number)) → sum_at K R q ts ≡ weigh K (at q) ts
  unfolding sum_at weigh at
  sum_at-weigh q [] = refl
  sum_at-weigh q (t ∷ ts) = λ i. K.plus (times_cond (eq_by_cmp R q t.0) t.1 i) (sum_at-weigh q ts i)

  -- ---- what collect has at a key

  unfoldable pub named : M → List (M × K.Number) → Bool
  named q [] = false
  named q (t ∷ ts) = cond (eq_by_cmp R q t.0) true (named q ts)

  cond_same : {A : Type 0} (b : Bool) (x : A) → cond b x x ≡ x
  cond_same true x = refl
  cond_same false x = refl

  value-find : (all ts : List (M × K.Number)) (q : M) → value_or_zero K (find R q (summed K R all ts)) ≡ cond (named q ts) (sum_at K R q all) K.zero
  unfolding named summed
  value-find all [] q = refl
  value-find all (t ∷ ts) q = by (K.discrete (sum_at K R t.0 all) K.zero) (eq_by_cmp R q t.0) refl (value-find all ts q)
    where
      by : (d : Dec (sum_at K R t.0 all ≡ K.zero)) (b : Bool) → eq_by_cmp R q t.0 ≡ b
          → value_or_zero K (find R q (summed K R all ts)) ≡ cond (named q ts) (sum_at K R q all) K.zero
          → value_or_zero K (find R q (elim d [ yes e ↦ summed K R all ts | no n ↦ (t.0, record { value = sum_at K R t.0 all; apart = n }) ∷ summed K R all ts ])) ≡ cond (cond b true (named q ts)) (sum_at K R q all) K.zero
      by (yes e) true b ih = ih ∙ ap (λ x. cond (named q ts) x K.zero) gone ∙ cond_same (named q ts) K.zero ∙ sym gone
        where
          gone : sum_at K R q all ≡ K.zero
          gone = ap (λ p. sum_at K R p all) (same_key q t.0 b) ∙ e
      by (yes e) false b ih = ih
      by (no n) true b ih = ap (λ c. value_or_zero K (cond c (Some record { value = sum_at K R t.0 all; apart = n }) (find R q (summed K R all ts)))) b ∙ ap (λ p. sum_at K R p all) (sym (same_key q t.0 b))
      by (no n) false b ih = ap (λ c. value_or_zero K (cond c (Some record { value = sum_at K R t.0 all; apart = n }) (find R q (summed K R all ts)))) b ∙ ih

  sum_at_unnamed : (q : M) (ts : List (M × K.Number)) → cond (named q ts) (sum_at K R q ts) K.zero ≡ sum_at K R q ts
  unfolding named sum_at
  sum_at_unnamed q [] = refl
  sum_at_unnamed q (t ∷ ts) = elim (eq_by_cmp R q t.0) as (λ b. cond (cond b true (named q ts)) (K.plus (cond b t.1 K.zero) (sum_at K R q ts)) K.zero ≡ K.plus (cond b t.1 K.zero) (sum_at K R q ts)) [
    | true ↦ refl
    | false ↦ ap (λ x. cond (named q ts) x K.zero) (zero_plus K _) ∙ sum_at_unnamed q ts ∙ sym (zero_plus K _)
  ]

  pub coefficient-collect : (ts : List (M × K.Number)) (q : M) → coefficient K R (collect K R ts) q ≡ sum_at K R q ts
  unfolding coefficient collect
  coefficient-collect ts q = ap (value_or_zero K) (get-from_entries o (summed K R ts ts) q) ∙ value-find ts ts q ∙ sum_at_unnamed q ts

  -- ---- the terms of a sum

  tested_first : (a b : Bool) → T (a && b) → T a
  tested_first true b p = tt
  tested_first false b p = p

  tested_second : (a b : Bool) → T (a && b) → T b
  tested_second true b p = p
  tested_second false b p = absurd p

  apart_key : (r : Ordering) → T (is_lt r) → is_eq r ≡ false
  apart_key Less p = refl
  apart_key Equal p = absurd p
  apart_key Greater p = refl

  sum_at_below : (q : M) (es : List (M × NonZero K)) → T (below_all R q es) → sum_at K R q (map (λ e. (e.0, e.1.value)) es) ≡ K.zero
  unfolding sum_at
  sum_at_below q [] h = refl
  sum_at_below q (e ∷ es) h = (λ i. K.plus (cond (apart_key (R q e.0) (tested_first _ _ h) i) e.1.value K.zero) (sum_at_below q es (tested_second _ _ h) i)) ∙ zero_plus K K.zero

  sum_at-entries : (q : M) (es : List (M × NonZero K)) → T (is_sorted R es) → sum_at K R q (map (λ e. (e.0, e.1.value)) es) ≡ value_or_zero K (find R q es)
  unfolding sum_at
  sum_at-entries q [] h = refl
  sum_at-entries q (e ∷ es) h =
      elim (eq_by_cmp R q e.0) as (λ b. eq_by_cmp R q e.0 ≡ b → K.plus (cond b e.1.value K.zero) (sum_at K R q (map (λ e. (e.0, e.1.value)) es)) ≡ value_or_zero K (cond b (Some e.1) (find R q es))) [
        | true ↦ λ b. ap (K.plus e.1.value) (sum_at_below q es (subst (λ p. T (below_all R p es)) (sym (same_key q e.0 b)) (tested_first _ _ h))) ∙ K.plus_zero _
        | false ↦ λ b. zero_plus K _ ∙ sum_at-entries q es (tested_second _ _ h)
      ] refl

  pub sum_at-terms : (f : Free K R) (q : M) → sum_at K R q (terms K R f) ≡ coefficient K R f q
  unfolding terms coefficient
  sum_at-terms f q = sum_at-entries q (entries f) (entries_sorted f) ∙ ap (value_or_zero K) (sym (get-entries f q))

  -- a sum has a coefficient at each key of its terms
  keyed_apart : (es : List (M × NonZero K)) → T (is_sorted R es) → (q : M) → T (named q (map (λ e. (e.0, e.1.value)) es)) → sum_at K R q (map (λ e. (e.0, e.1.value)) es) ≢ K.zero
  unfolding sum_at named
  keyed_apart [] h q n = absurd n
  keyed_apart (e ∷ es) h q n =
      (elim (eq_by_cmp R q e.0) as (λ b. eq_by_cmp R q e.0 ≡ b → T (cond b true (named q (map (λ e. (e.0, e.1.value)) es))) → K.plus (cond b e.1.value K.zero) (sum_at K R q (map (λ e. (e.0, e.1.value)) es)) ≢ K.zero) [
        | true ↦ λ b n z. e.1.apart (sym (ap (K.plus e.1.value) (sum_at_below q es (subst (λ p. T (below_all R p es)) (sym (same_key q e.0 b)) (tested_first _ _ h))) ∙ K.plus_zero _) ∙ z)
        | false ↦ λ b n z. keyed_apart es (tested_second _ _ h) q n (sym (zero_plus K _) ∙ z)
      ]) refl n

  pub apart_of_named : (f : Free K R) (q : M) → T (named q (terms K R f)) → coefficient K R f q ≢ K.zero
  unfolding terms
  apart_of_named f q n z = keyed_apart (entries f) (entries_sorted f) q n (sym (sum_at_entries f q) ∙ z)
    where
      sum_at_entries : (f : Free K R) (q : M) → coefficient K R f q ≡ sum_at K R q (map (λ e. (e.0, e.1.value)) (entries f))
      sum_at_entries f q = sym (sum_at-terms f q)

  value_none : (u : Option (NonZero K)) → value_or_zero K u ≡ K.zero → u ≡ None
  value_none None e = refl
  value_none (Some v) e = absurd (v.apart e)

  same_option : (u v : Option (NonZero K)) → value_or_zero K u ≡ value_or_zero K v → u ≡ v
  same_option None v e = sym (value_none v (sym e))
  same_option (Some u) None e = absurd (u.apart e)
  same_option (Some u) (Some v) e = ap Some (same_non_zero K u v e)

  -- extensional equality
  pub same_sum : (f g : Free K R) → ((q : M) → coefficient K R f q ≡ coefficient K R g q) → f ≡ g
  unfolding coefficient
  same_sum f g e = same_map o same f g (λ q. same_option _ _ (e q))

  -- ---- lists of terms with the same sums weigh the same

  without : M → List (M × K.Number) → List (M × K.Number)
  without q [] = []
  without q (t ∷ ts) = cond (eq_by_cmp R q t.0) (without q ts) (t ∷ without q ts)

  length-without : (q : M) (ts : List (M × K.Number)) → length (without q ts) ≤ length ts
  unfolding without
  length-without q [] = omega arith
  length-without q (t ∷ ts) =
      let less = length-without q ts in
      elim (eq_by_cmp R q t.0) as (λ b. length (cond b (without q ts) (t ∷ without q ts)) ≤ suc (length ts)) [ true ↦ omega arith | false ↦ omega arith ]

  weigh-without : (w : M → K.Number) (q : M) (ts : List (M × K.Number)) → weigh K w ts ≡ K.plus (K.times (sum_at K R q ts) (w q)) (weigh K w (without q ts))
  unfolding weigh without sum_at
  weigh-without w q [] = sym (K.plus_zero _ ∙ zero_times K (w q))
  weigh-without w q (t ∷ ts) =
      elim (eq_by_cmp R q t.0) as (λ b. eq_by_cmp R q t.0 ≡ b → K.plus (K.times t.1 (w t.0)) (weigh K w ts) ≡ K.plus (K.times (K.plus (cond b t.1 K.zero) (sum_at K R q ts)) (w q)) (weigh K w (cond b (without q ts) (t ∷ without q ts)))) [
        | true ↦ λ b. (λ i. K.plus (K.times t.1 (w (sym (same_key q t.0 b) i))) (weigh-without w q ts i)) ∙ sym (K.plus_assoc _ _ _) ∙ ap (λ x. K.plus x (weigh K w (without q ts))) (sym (plus_times K _ _ _))
        | false ↦ λ b. ap (K.plus (K.times t.1 (w t.0))) (weigh-without w q ts) ∙ plus_left_comm K _ _ _ ∙ ap (λ x. K.plus (K.times x (w q)) (K.plus (K.times t.1 (w t.0)) (weigh K w (without q ts)))) (sym (zero_plus K _))
      ] refl

  sum_at-without : (p q : M) (ts : List (M × K.Number)) → sum_at K R p (without q ts) ≡ cond (eq_by_cmp R q p) K.zero (sum_at K R p ts)
  unfolding sum_at without
  sum_at-without p q [] = sym (cond_same (eq_by_cmp R q p) K.zero)
  sum_at-without p q (t ∷ ts) =
      elim (eq_by_cmp R q t.0) as (λ b. eq_by_cmp R q t.0 ≡ b → sum_at K R p (cond b (without q ts) (t ∷ without q ts)) ≡ cond (eq_by_cmp R q p) K.zero (K.plus (cond (eq_by_cmp R p t.0) t.1 K.zero) (sum_at K R p ts))) [
        | true ↦ λ b. sum_at-without p q ts ∙ skipped (same_key q t.0 b) (eq_by_cmp R q p) refl
        | false ↦ λ b. ap (K.plus (cond (eq_by_cmp R p t.0) t.1 K.zero)) (sum_at-without p q ts) ∙ kept b (eq_by_cmp R q p) refl
      ] refl
    where
      skipped : q ≡ t.0 → (c : Bool) → eq_by_cmp R q p ≡ c → cond c K.zero (sum_at K R p ts) ≡ cond c K.zero (K.plus (cond (eq_by_cmp R p t.0) t.1 K.zero) (sum_at K R p ts))
      skipped e true c = refl
      skipped e false c = sym (ap (λ b. K.plus (cond b t.1 K.zero) (sum_at K R p ts)) (ap (eq_by_cmp R p) (sym e) ∙ (eq_by_cmp_equiv o).symm p q ∙ c) ∙ zero_plus K _)

      kept : eq_by_cmp R q t.0 ≡ false → (c : Bool) → eq_by_cmp R q p ≡ c → K.plus (cond (eq_by_cmp R p t.0) t.1 K.zero) (cond c K.zero (sum_at K R p ts)) ≡ cond c K.zero (K.plus (cond (eq_by_cmp R p t.0) t.1 K.zero) (sum_at K R p ts))
      kept e true c = ap (λ b. K.plus (cond b t.1 K.zero) K.zero) (ap (λ m. eq_by_cmp R m t.0) (sym (same_key q p c)) ∙ e) ∙ zero_plus K K.zero
      kept e false c = refl

  weigh_gone : (w : M → K.Number) (n : ℕ) (ts : List (M × K.Number)) → length ts ≤ n → ((q : M) → sum_at K R q ts ≡ K.zero) → weigh K w ts ≡ K.zero
  unfolding weigh sum_at without
  weigh_gone w n [] h e = refl
  weigh_gone w zero (t ∷ ts) h e = absurd (omega arith)
  weigh_gone w (suc n) (t ∷ ts) h e =
      let own : eq_by_cmp R t.0 t.0 ≡ true = ap is_eq (tied_itself o t.0) in
      let rest : without t.0 (t ∷ ts) ≡ without t.0 ts = ap (λ b. cond b (without t.0 ts) (t ∷ without t.0 ts)) own in
      weigh-without w t.0 (t ∷ ts)
      ∙ (λ i. K.plus (K.times (e t.0 i) (w t.0)) (weigh K w (rest i)))
      ∙ ap (λ x. K.plus x (weigh K w (without t.0 ts))) (zero_times K (w t.0)) ∙ zero_plus K _
      ∙ weigh_gone w n (without t.0 ts) (le t.0 ts h)
      (λ q. ap (sum_at K R q) (sym rest) ∙ sum_at-without q t.0 (t ∷ ts) ∙ ap (cond (eq_by_cmp R t.0 q) K.zero) (e q) ∙ cond_same (eq_by_cmp R t.0 q) K.zero)
    where
      le : (q : M) (us : List (M × K.Number)) → suc (length us) ≤ suc n → length (without q us) ≤ n
      le q us h = let less = length-without q us in omega arith

  weigh_by_sums : (w : M → K.Number) (ts us : List (M × K.Number)) → ((q : M) → sum_at K R q ts ≡ sum_at K R q us) → weigh K w ts ≡ weigh K w us
  weigh_by_sums w ts us e =
      let opposite = map (λ (t : M × K.Number). (t.0, K.times (K.minus K.one) t.1)) us in
      let split = λ (v : M → K.Number). weigh-append K v ts opposite ∙ ap (K.plus (weigh K v ts)) (weigh-scaled K v (K.minus K.one) us) in
      let back = λ (x : K.Number). minus_times K K.one x ∙ ap K.minus (one_times K x) in
      let gone = λ (q : M). sum_at-weigh q (ts ++ opposite) ∙ split (at q) ∙ (λ i. K.plus (sym (sum_at-weigh q ts) i) (back (sym (sum_at-weigh q us) i) i)) ∙ ap (λ x. K.plus x (K.minus (sum_at K R q us))) (e q) ∙ K.plus_minus (sum_at K R q us) in
      let none_left = sym (split w) ∙ weigh_gone w (length (ts ++ opposite)) (ts ++ opposite) (omega arith) gone in
      plus_cancel K (K.minus (weigh K w us)) _ _ (K.plus_comm _ _ ∙ ap (K.plus (weigh K w ts)) (sym (back (weigh K w us))) ∙ none_left ∙ sym (K.plus_comm _ _ ∙ K.plus_minus _))

  -- ---- the functional that weighs a sum

  pub total : (M → K.Number) → Free K R → K.Number
  total w f = weigh K w (terms K R f)

  pub total-is : (w : M → K.Number) (f : Free K R) → total w f ≡ weigh K w (terms K R f)
  unfolding total
  total-is w f = refl

  pub total-collect : (w : M → K.Number) (ts : List (M × K.Number)) → total w (collect K R ts) ≡ weigh K w ts
  unfolding total
  total-collect w ts = weigh_by_sums w _ ts (λ q. sum_at-terms (collect K R ts) q ∙ coefficient-collect ts q)

  coefficient-total : (f : Free K R) (q : M) → coefficient K R f q ≡ total (at q) f
  unfolding total
  coefficient-total f q = sym (sum_at-terms f q) ∙ sum_at-weigh q (terms K R f)

  pub total-empty_sum : (w : M → K.Number) → total w (empty_sum K R) ≡ K.zero
  unfolding empty_sum weigh
  total-empty_sum w = total-collect w []

  pub total-single : (w : M → K.Number) (m : M) (k : K.Number) → total w (single K R m k) ≡ K.times k (w m)
  unfolding single weigh
  total-single w m k = total-collect w ((m, k) ∷ []) ∙ K.plus_zero _

  pub total-plus : (w : M → K.Number) (f g : Free K R) → total w (plus K R f g) ≡ K.plus (total w f) (total w g)
  unfolding plus total
  total-plus w f g = total-collect w (terms K R f ++ terms K R g) ∙ weigh-append K w (terms K R f) (terms K R g)

  pub total-scale : (w : M → K.Number) (k : K.Number) (f : Free K R) → total w (scale K R k f) ≡ K.times k (total w f)
  unfolding scale total
  total-scale w k f = total-collect w _ ∙ weigh-scaled K w k (terms K R f)

  weigh-flat_map : (w : M → K.Number) (h : M → Free K R) (ts : List (M × K.Number)) → weigh K w (flat_map (λ t. map (λ u. (u.0, K.times t.1 u.1)) (terms K R (h t.0))) ts) ≡ weigh K (λ m. total w (h m)) ts
  unfolding weigh total
  weigh-flat_map w h [] = refl
  weigh-flat_map w h (t ∷ ts) = weigh-append K w (map (λ u. (u.0, K.times t.1 u.1)) (terms K R (h t.0))) _ ∙ (λ i. K.plus (weigh-scaled K w t.1 (terms K R (h t.0)) i) (weigh-flat_map w h ts i))

  pub total-linear_extension : (w : M → K.Number) (h : M → Free K R) (f : Free K R) → total w (linear_extension K R h f) ≡ total (λ m. total w (h m)) f
  unfolding linear_extension total
  total-linear_extension w h f = total-collect w _ ∙ weigh-flat_map w h (terms K R f)

  pub total_same : (w v : M → K.Number) (f : Free K R) → ((m : M) → w m ≡ v m) → total w f ≡ total v f
  total_same w v f e = ap (λ (u : M → K.Number). total u f) (λ i m. e m i)

  -- two sums that every functional weighs alike are equal
  pub same_totals : (f g : Free K R) → ((w : M → K.Number) → total w f ≡ total w g) → f ≡ g
  same_totals f g e = same_sum f g (λ q. coefficient-total f q ∙ e (at q) ∙ sym (coefficient-total g q))

  pub total_sum : (w v : M → K.Number) (f : Free K R) → total (λ m. K.plus (w m) (v m)) f ≡ K.plus (total w f) (total v f)
  unfolding total
  total_sum w v f = weigh_sum K w v (terms K R f)

  pub total_multiple : (k : K.Number) (w : M → K.Number) (f : Free K R) → total (λ m. K.times k (w m)) f ≡ K.times k (total w f)
  unfolding total
  total_multiple k w f = weigh_multiple K k w (terms K R f)

  -- ---- a sum with at most one part

  weigh_vanish : (w : M → K.Number) (n : ℕ) (ts : List (M × K.Number)) → length ts ≤ n → ((q : M) → K.times (sum_at K R q ts) (w q) ≡ K.zero) → weigh K w ts ≡ K.zero
  unfolding weigh sum_at without
  weigh_vanish w n [] h e = refl
  weigh_vanish w zero (t ∷ ts) h e = absurd (omega arith)
  weigh_vanish w (suc n) (t ∷ ts) h e =
      let own : eq_by_cmp R t.0 t.0 ≡ true = ap is_eq (tied_itself o t.0) in
      let rest : without t.0 (t ∷ ts) ≡ without t.0 ts = ap (λ b. cond b (without t.0 ts) (t ∷ without t.0 ts)) own in
      weigh-without w t.0 (t ∷ ts)
      ∙ (λ i. K.plus (e t.0 i) (weigh K w (rest i))) ∙ zero_plus K _
      ∙ weigh_vanish w n (without t.0 ts) (shorter t.0 ts n h)
      (λ q. ap (λ us. K.times (sum_at K R q us) (w q)) (sym rest) ∙ vanish_without w t.0 (t ∷ ts) e q)
    where
      shorter : (q : M) (us : List (M × K.Number)) (n : ℕ) → suc (length us) ≤ suc n → length (without q us) ≤ n
      shorter q us n h = let less = length-without q us in omega arith

      vanish_without : (w : M → K.Number) (p : M) (us : List (M × K.Number)) → ((q : M) → K.times (sum_at K R q us) (w q) ≡ K.zero) → (q : M) → K.times (sum_at K R q (without p us)) (w q) ≡ K.zero
      vanish_without w p us e q = ap (λ x. K.times x (w q)) (sum_at-without q p us) ∙ by (eq_by_cmp R p q)
        where
          by : (b : Bool) → K.times (cond b K.zero (sum_at K R q us)) (w q) ≡ K.zero
          by true = zero_times K (w q)
          by false = e q

  pub total_vanish : (w : M → K.Number) (f : Free K R) → ((q : M) → K.times (coefficient K R f q) (w q) ≡ K.zero) → total w f ≡ K.zero
  unfolding total
  total_vanish w f e = weigh_vanish w (length (terms K R f)) (terms K R f) (omega arith) (λ q. ap (λ x. K.times x (w q)) (sum_at-terms f q) ∙ e q)

  pub total_only : (w : M → K.Number) (f : Free K R) (m : M) → ((q : M) → q ≢ m → K.times (coefficient K R f q) (w q) ≡ K.zero) → total w f ≡ K.times (coefficient K R f m) (w m)
  unfolding total
  total_only w f m e =
      weigh-without w m (terms K R f)
      ∙ (λ i. K.plus (K.times (sum_at-terms f m i) (w m)) (weigh_vanish w (length (without m (terms K R f))) (without m (terms K R f)) (omega arith) (λ q. ap (λ x. K.times x (w q)) (sum_at-without q m (terms K R f)) ∙ by q (eq_by_cmp R m q) refl) i))
      ∙ K.plus_zero _
    where
      by : (q : M) (b : Bool) → eq_by_cmp R m q ≡ b → K.times (cond b K.zero (sum_at K R q (terms K R f))) (w q) ≡ K.zero
      by q true p = zero_times K (w q)
      by q false p = ap (λ x. K.times x (w q)) (sum_at-terms f q) ∙ e q (λ same. true≢false (sym (ap is_eq (tied_itself o m)) ∙ ap (eq_by_cmp R m) (sym same) ∙ p))

  -- ---- coefficients of sums

  pub coefficient-plus : (f g : Free K R) (q : M) → coefficient K R (plus K R f g) q ≡ K.plus (coefficient K R f q) (coefficient K R g q)
  coefficient-plus f g q = coefficient-total _ q ∙ total-plus (at q) f g ∙ (λ i. K.plus (sym (coefficient-total f q) i) (sym (coefficient-total g q) i))

  pub coefficient-scale : (k : K.Number) (f : Free K R) (q : M) → coefficient K R (scale K R k f) q ≡ K.times k (coefficient K R f q)
  coefficient-scale k f q = coefficient-total _ q ∙ total-scale (at q) k f ∙ ap (K.times k) (sym (coefficient-total f q))

  pub coefficient-empty_sum : (q : M) → coefficient K R (empty_sum K R) q ≡ K.zero
  coefficient-empty_sum q = coefficient-total _ q ∙ total-empty_sum (at q)

  pub coefficient-own : (m : M) (k : K.Number) → coefficient K R (single K R m k) m ≡ k
  coefficient-own m k = coefficient-total _ m ∙ total-single (at m) m k ∙ ap (K.times k) (at_own m) ∙ K.times_one k

  pub coefficient-other : (m : M) (k : K.Number) (q : M) → q ≢ m → coefficient K R (single K R m k) q ≡ K.zero
  unfolding at
  coefficient-other m k q n = coefficient-total _ q ∙ total-single (at q) m k ∙ by (eq_by_cmp R q m) refl
    where
      by : (b : Bool) → eq_by_cmp R q m ≡ b → K.times k (cond b K.one K.zero) ≡ K.zero
      by true p = absurd (n (same_key q m p))
      by false p = times_zero K k

  pub coefficient-linear_extension : (h : M → Free K R) (f : Free K R) (q : M) → coefficient K R (linear_extension K R h f) q ≡ total (λ m. coefficient K R (h m) q) f
  coefficient-linear_extension h f q = coefficient-total _ q ∙ total-linear_extension (at q) h f ∙ total_same _ _ f (λ m. sym (coefficient-total (h m) q))

  -- ---- the keys that a sum has

  pub named_of_apart : (f : Free K R) (q : M) → coefficient K R f q ≢ K.zero → T (named q (terms K R f))
  named_of_apart f q n = by (named q (terms K R f)) refl
    where
      by : (b : Bool) → named q (terms K R f) ≡ b → T b
      by true p = tt
      by false p = absurd (n (sym (sum_at-terms f q) ∙ sym (sum_at_unnamed q (terms K R f)) ∙ ap (λ b. cond b (sum_at K R q (terms K R f)) K.zero) p))
