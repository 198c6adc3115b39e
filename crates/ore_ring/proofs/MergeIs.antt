-- The walk over two lists of falling terms gives the sum of operators within limits.
--     fits           each term of the first list whose monomial the second has fits
--     Sums           what a list is that the walk gives: falling, the sum, and no greater than both
--     Meets          what the walk gives or why it stops is right
--     merge_meets    so it is
--     merge_ok, merge_stops    the same against the definition of a sum
use Rattle.std.proofs.Common.{◌≡◌, ◌≢◌, Bool, true, false, ◌&&◌, T, [], ◌∷◌, pos, refl, sym, ap, ap₂, ◌∙◌, subst}
use Rattle.std.specs.declared.cmp.Ordering.{Ordering}
use Rattle.std.specs.declared.cmp.Ordering.TheVariants.{Less, Equal, Greater}
use Rattle.std.specs.declared.result.Result.{Result}
use Rattle.std.specs.declared.result.Result.TheVariants.{Ok, Err}
use Rattle.std.specs.Ordering.{eq_by_cmp, is_eq, is_lt, ordering_reverse}
use Rattle.std.specs.List.{list_all}
use Rattle.std.specs.FinMap.Entries.{below_all}
use Rattle.ore_rational.specs.Fraction.{Fraction, whole, add}
use Rattle.ore_rational.specs.Field.{rationals}
use Rattle.ore_rational.specs.FractionRing.{fraction_discrete}
use Rattle.ore_algebra.specs.Free.{sum_at, coefficient, empty_sum, single}
use Rattle.ore_monomial.specs.Monomial.{Monomial, order_cmp, plain_cmp}
use Rattle.ore_monomial.specs.declared.order.Order.{Order}
use Rattle.ore_monomial.specs.LetterRule.{Operator}
use Rattle.ore_monomial.proofs.Monomials.{plain_cmp_total, plain_cmp_apart, order_total, order_apart}
use Rattle.ore_monomial.proofs.Operators
use Rattle.ore_algebra.specs.Limits.{Limits, Cause, Overflow, ◌>>=◌, guard}
use Rattle.ore_rational.specs.Within.{sum_fits, sum_within}
use Rattle.ore_ring.specs.Terms.{Summand, Terms, IsFalling}
use Rattle.ore_monomial.specs.Numbers.{back}
use Rattle.ore_ring.specs.Within.{shared_fits, all_shared_fit, plus_within}
use Rattle.ore_ring.specs.Merge.{kept, step_within, into_within, merge_within}
use Rattle.ore_monomial.proofs.FallingTerms.{eq_either}
use Rattle.ore_ring.proofs.AllTerms.{all_terms, at_skip, at_own, at}
use Rattle.ore_ring.proofs.TermLaws.{C, ◌+◌}
use Rattle.ore_ring.proofs.Falls.{both, first, second, less_of, of_less, falls_tail, below_more}

abbrev pub zero : Fraction
zero = whole (pos 0)

module _ (l : Limits) (o : Order) where
  unfoldable pub fits : Terms → Terms → Bool
  fits ts us = list_all (λ t. shared_fits l t.1 (at t.0 us)) ts

  -- ---- a key that is below or above

  pub eq_order : (q m : Monomial) (r : Ordering) → order_cmp o q m ≡ r → eq_by_cmp plain_cmp q m ≡ is_eq r
  eq_order q m r e = eq_either rationals {R = plain_cmp} {S = order_cmp o} plain_cmp_total plain_cmp_apart (order_total o) (order_apart o) q m ∙ ap is_eq e

  pub turn : (q m : Monomial) (r : Ordering) → order_cmp o m q ≡ r → order_cmp o q m ≡ ordering_reverse r
  turn q m r e = (order_total o).antisymm q m ∙ ap ordering_reverse e

  pub at_above : (q : Monomial) (us : Terms) → T (below_all (back o) q us) → at q us ≡ zero
  unfolding sum_at
  at_above q [] h = refl
  at_above q (u ∷ us) h = at_skip q u us (eq_order q u.0 Greater (turn q u.0 Less (less_of _ (first _ _ h)))) ∙ at_above q us (second _ _ h)

  fits_skip : (u : Summand) (us ts : Terms) → T (below_all (back o) u.0 ts) → fits ts (u ∷ us) ≡ fits ts us
  unfolding fits
  fits_skip u us [] h = refl
  fits_skip u us (t ∷ ts) h = λ i. shared_fits l t.1 (at_skip t.0 u us (eq_order t.0 u.0 Less (less_of _ (first _ _ h))) i) && fits_skip u us ts (second _ _ h) i

  pub shared_none : (x y : Fraction) → y ≡ zero → shared_fits l x y ≡ true
  unfolding shared_fits
  shared_none x y e = by (fraction_discrete y zero)
    where
      by : (d : Dec (y ≡ zero)) → ◌≡◌ {A = Bool} (elim d [ yes e ↦ true | no n ↦ sum_fits l x y ]) true
      by (yes e) = refl
      by (no n) = absurd (n e)

  pub shared_some : (x y : Fraction) → y ≢ zero → shared_fits l x y ≡ sum_fits l x y
  unfolding shared_fits
  shared_some x y k = by (fraction_discrete y zero)
    where
      by : (d : Dec (y ≡ zero)) → ◌≡◌ {A = Bool} (elim d [ yes e ↦ true | no n ↦ sum_fits l x y ]) (sum_fits l x y)
      by (yes e) = absurd (k e)
      by (no n) = refl

  -- ---- what the walk gives

  abbrev pub KeepsBelow : Terms → Terms → Terms → Type 0
  KeepsBelow ts us rs = (m : Monomial) → T (below_all (back o) m ts) → T (below_all (back o) m us) → T (below_all (back o) m rs)

  pub record Sums (ts us rs : Terms) : Type 0 where
    pub falls : IsFalling o rs
    pub value : C rs ≡ C ts + C us
    pub fit : fits ts us ≡ true
    pub below : KeepsBelow ts us rs

  abbrev pub Meets : Terms → Terms → Result Terms Cause → Type 0
  Meets ts us (Ok rs) = Sums ts us rs
  Meets ts us (Err e) = (e ≡ Overflow) × (fits ts us ≡ false)

  one : Summand → Operator rationals
  one t = single rationals plain_cmp t.0 t.1

  more : (t : Summand) (ts : Terms) → C (t ∷ ts) ≡ one t + C ts
  unfolding one
  more t ts = Operators.collect_more rationals t.0 t.1 ts

  fits_nil : (us : Terms) → fits [] us ≡ true
  unfolding fits
  fits_nil us = refl

  pub fits_none : (ts : Terms) → fits ts [] ≡ true
  unfolding fits sum_at
  fits_none [] = refl
  fits_none (t ∷ ts) = λ i. shared_none t.1 zero refl i && fits_none ts i

  none_left : (us : Terms) → C us ≡ C [] + C us
  unfolding empty_sum
  none_left us = sym (Operators.zero-plus rationals (C us))

  none_right : (ts : Terms) → C ts ≡ C ts + C []
  unfolding empty_sum
  none_right ts = sym (Operators.plus_zero rationals (C ts))

  pub add_front : (t : Summand) (ts : Terms) → t.1 ≢ zero → T (below_all (back o) t.0 ts) → IsFalling o ts → IsFalling o (t ∷ ts)
  add_front t ts n b h = record { falls = both _ _ b h.falls; apart = (n, h.apart) }

  -- the greater term is of the second list
  second_first : (t u : Summand) (ts us : Terms) → order_cmp o t.0 u.0 ≡ Less → IsFalling o (t ∷ ts) → IsFalling o (u ∷ us) → (r : Result Terms Cause) → Meets (t ∷ ts) us r → Meets (t ∷ ts) (u ∷ us) (r >>= λ rs. Ok (u ∷ rs))
  second_first t u ts us e h k (Ok rs) m =
      let above : T (below_all (back o) u.0 (t ∷ ts)) = both _ _ (of_less _ e) (below_more o u.0 t.0 ts e (first _ _ h.falls)) in
      record {
        falls = add_front u rs k.apart.0 (m.below u.0 above (first _ _ k.falls)) m.falls;
        value = more u rs ∙ ap (λ f. one u + f) m.value ∙ Operators.plus-left_comm rationals (one u) (C (t ∷ ts)) (C us) ∙ ap (λ f. C (t ∷ ts) + f) (sym (more u us));
        fit = fits_skip u us (t ∷ ts) above ∙ m.fit;
        below = λ n a b. both _ _ (first _ _ b) (m.below n a (second _ _ b));
      }
  second_first t u ts us e h k (Err c) m = (m.0, fits_skip u us (t ∷ ts) (both _ _ (of_less _ e) (below_more o u.0 t.0 ts e (first _ _ h.falls))) ∙ m.1)

  fits_cons : (t : Summand) (ts us : Terms) (b : Bool) → shared_fits l t.1 (at t.0 us) ≡ b → fits (t ∷ ts) us ≡ (b && fits ts us)
  unfolding fits
  fits_cons t ts us b e = ap (λ c. c && fits ts us) e

  -- the greater term is of the first list
  first_first : (t u : Summand) (ts us : Terms) → order_cmp o t.0 u.0 ≡ Greater → IsFalling o (t ∷ ts) → IsFalling o (u ∷ us) → (r : Result Terms Cause) → Meets ts (u ∷ us) r → Meets (t ∷ ts) (u ∷ us) (r >>= λ rs. Ok (t ∷ rs))
  first_first t u ts us e h k r m = by r m
    where
      less : order_cmp o u.0 t.0 ≡ Less
      less = turn u.0 t.0 Greater e

      above : T (below_all (back o) t.0 (u ∷ us))
      above = both _ _ (of_less _ less) (below_more o t.0 u.0 us less (first _ _ k.falls))

      fit : fits (t ∷ ts) (u ∷ us) ≡ fits ts (u ∷ us)
      fit = fits_cons t ts (u ∷ us) true (shared_none t.1 _ (at_above t.0 (u ∷ us) above))

      by : (r : Result Terms Cause) → Meets ts (u ∷ us) r → Meets (t ∷ ts) (u ∷ us) (r >>= λ rs. Ok (t ∷ rs))
      by (Ok rs) m = record {
        falls = add_front t rs h.apart.0 (m.below t.0 (first _ _ h.falls) above) m.falls;
        value = more t rs ∙ ap (λ f. one t + f) m.value ∙ sym (Operators.plus_assoc rationals (one t) (C ts) (C (u ∷ us))) ∙ ap (λ f. f + C (u ∷ us)) (sym (more t ts));
        fit = fit ∙ m.fit;
        below = λ n a b. both _ _ (first _ _ a) (m.below n (second _ _ a) b);
      }
      by (Err c) m = (m.0, fit ∙ m.1)

  pub kept_value : (m : Monomial) (x : Fraction) (rs : Terms) → C (kept m x rs) ≡ single rationals plain_cmp m x + C rs
  kept_value m x rs = by (fraction_discrete x zero)
    where
      by : (d : Dec (x ≡ zero)) → C (elim d [ yes e ↦ rs | no n ↦ (m, x) ∷ rs ]) ≡ single rationals plain_cmp m x + C rs
      by (yes e) = sym (ap (λ f. f + C rs) (ap (single rationals plain_cmp m) e ∙ Operators.single_zero rationals m) ∙ Operators.zero-plus rationals (C rs))
      by (no n) = Operators.collect_more rationals m x rs

  kept_falls : (m : Monomial) (x : Fraction) (rs : Terms) → T (below_all (back o) m rs) → IsFalling o rs → IsFalling o (kept m x rs)
  kept_falls m x rs b h = by (fraction_discrete x zero)
    where
      by : (d : Dec (x ≡ zero)) → IsFalling o (elim d [ yes e ↦ rs | no n ↦ (m, x) ∷ rs ])
      by (yes e) = h
      by (no n) = add_front (m, x) rs n b h

  kept_below : (n m : Monomial) (x : Fraction) (rs : Terms) → T (is_lt (back o n m)) → T (below_all (back o) n rs) → T (below_all (back o) n (kept m x rs))
  kept_below n m x rs a b = by (fraction_discrete x zero)
    where
      by : (d : Dec (x ≡ zero)) → T (below_all (back o) n (elim d [ yes e ↦ rs | no n ↦ (m, x) ∷ rs ]))
      by (yes e) = b
      by (no k) = both _ _ a b

  -- both have the monomial
  shared : (t u : Summand) (ts us : Terms) → order_cmp o t.0 u.0 ≡ Equal → IsFalling o (t ∷ ts) → IsFalling o (u ∷ us) → (r : Result Terms Cause) → Meets ts us r → Meets (t ∷ ts) (u ∷ us) (sum_within l t.1 u.1 >>= λ s. r >>= λ rs. Ok (kept t.0 s rs))
  unfolding sum_within one
  shared t u ts us e h k r m = by (sum_fits l t.1 u.1) refl r m
    where
      same : t.0 ≡ u.0
      same = order_apart o t.0 u.0 e

      above : T (below_all (back o) u.0 ts)
      above = subst (λ q. T (below_all (back o) q ts)) same (first _ _ h.falls)

      own : at t.0 (u ∷ us) ≡ u.1
      own = at_own t.0 u us (eq_order t.0 u.0 Equal e) (at_above t.0 us (subst (λ q. T (below_all (back o) q us)) (sym same) (first _ _ k.falls)))

      fit : fits (t ∷ ts) (u ∷ us) ≡ (sum_fits l t.1 u.1 && fits ts us)
      fit = fits_cons t ts (u ∷ us) (sum_fits l t.1 u.1) (ap (shared_fits l t.1) own ∙ shared_some t.1 u.1 k.apart.0) ∙ ap (λ b. sum_fits l t.1 u.1 && b) (fits_skip u us ts above)

      by : (b : Bool) → sum_fits l t.1 u.1 ≡ b → (r : Result Terms Cause) → Meets ts us r → Meets (t ∷ ts) (u ∷ us) (guard b (add t.1 u.1) Overflow >>= λ s. r >>= λ rs. Ok (kept t.0 s rs))
      by true f (Ok rs) m = record {
        falls = kept_falls t.0 (add t.1 u.1) rs (m.below t.0 (first _ _ h.falls) (subst (λ q. T (below_all (back o) q us)) (sym same) (first _ _ k.falls))) m.falls;
        value = kept_value t.0 (add t.1 u.1) rs
            ∙ ap₂ ◌+◌ (Operators.single-plus rationals t.0 t.1 u.1 ∙ ap (λ q. one t + single rationals plain_cmp q u.1) same) m.value
            ∙ Operators.plus-swap rationals (one t) (one u) (C ts) (C us)
            ∙ ap₂ ◌+◌ (sym (more t ts)) (sym (more u us));
        fit = fit ∙ ap (λ b. b && fits ts us) f ∙ m.fit;
        below = λ n a b. kept_below n t.0 (add t.1 u.1) rs (first _ _ a) (m.below n (second _ _ a) (second _ _ b));
      }
      by true f (Err c) m = (m.0, fit ∙ ap (λ b. b && fits ts us) f ∙ m.1)
      by false f r m = (refl, fit ∙ ap (λ b. b && fits ts us) f)

  into_meets : (t : Summand) (ts : Terms) → IsFalling o (t ∷ ts) → ((us : Terms) → IsFalling o us → Meets ts us (merge_within l o ts us)) → (us : Terms) → IsFalling o us → Meets (t ∷ ts) us (into_within l o t ts (merge_within l o ts) us)
  unfolding into_within
  into_meets t ts h rest [] k = record { falls = h; value = none_right (t ∷ ts); fit = fits_none (t ∷ ts); below = λ n a b. a }
  into_meets t ts h rest (u ∷ us) k = by (order_cmp o t.0 u.0) refl (into_meets t ts h rest us (falls_tail o u us k))
    where
      by : (r : Ordering) → order_cmp o t.0 u.0 ≡ r → Meets (t ∷ ts) us (into_within l o t ts (merge_within l o ts) us) → Meets (t ∷ ts) (u ∷ us) (step_within l r t u (merge_within l o ts (u ∷ us)) (merge_within l o ts us) (into_within l o t ts (merge_within l o ts) us))
      by Less e m = second_first t u ts us e h k _ m
      by Equal e m = shared t u ts us e h k _ (rest us (falls_tail o u us k))
      by Greater e m = first_first t u ts us e h k _ (rest (u ∷ us) k)

  pub merge_meets : (ts us : Terms) → IsFalling o ts → IsFalling o us → Meets ts us (merge_within l o ts us)
  unfolding merge_within
  merge_meets [] us h k = record { falls = k; value = none_left us; fit = fits_nil us; below = λ n a b. b }
  merge_meets (t ∷ ts) us h k = into_meets t ts h (λ vs. merge_meets ts vs (falls_tail o t ts h)) us k

  -- ---- against the definition

  pub fits_is : (ts us : Terms) → all_shared_fit l (C us) ts ≡ fits ts us
  unfolding fits all_shared_fit
  fits_is [] us = refl
  fits_is (t ∷ ts) us = λ i. shared_fits l t.1 (Operators.coefficient-collect rationals us t.0 i) && fits_is ts us i

  pub plus_is : (ts us : Terms) → IsFalling o ts → plus_within l (C ts) (C us) ≡ guard (fits ts us) (C ts + C us) Overflow
  unfolding plus_within all_shared_fit
  plus_is ts us h = ap (λ b. guard b (C ts + C us) Overflow) (all_terms (λ t. shared_fits l t.1 (coefficient rationals plain_cmp (C us) t.0)) o ts h ∙ fits_is ts us)

  -- Ok, with falling terms of the sum
  pub merge_ok : (ts us rs : Terms) → IsFalling o ts → IsFalling o us → merge_within l o ts us ≡ Ok rs → IsFalling o rs × (plus_within l (C ts) (C us) ≡ Ok (C rs))
  merge_ok ts us rs h k e =
      let m = subst (Meets ts us) e (merge_meets ts us h k) in
      (m.falls, plus_is ts us h ∙ ap (λ b. guard b (C ts + C us) Overflow) m.fit ∙ ap Ok (sym m.value))

  -- a stop is that of the definition
  pub merge_stops : (ts us : Terms) (c : Cause) → IsFalling o ts → IsFalling o us → merge_within l o ts us ≡ Err c → plus_within l (C ts) (C us) ≡ Err c
  merge_stops ts us c h k e =
      let m = subst (Meets ts us) e (merge_meets ts us h k) in
      plus_is ts us h ∙ ap (λ b. guard b (C ts + C us) Overflow) m.1 ∙ ap Err (sym m.0)
