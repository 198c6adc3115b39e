-- The terms of an operator in falling order, against the operator.
--     back_order, back_apart    the order turned round is total, and tells monomials apart
--     eq_either                 two orders that tell keys apart agree on which are equal
--     sum_either                so the sums at a monomial are the same by either order
--     sum_at-falling            the sum of the falling terms at a monomial is its coefficient
--     collect-falling_over      the falling terms make the operator again
--     coefficient-back          the coefficient of a monomial in terms that were collected twice
--     falling_from_sums         sorted terms without zeros are the falling terms of any terms with the same sums
--     falling_over-collect      so they are those of what they make
use Rattle.std.proofs.Common.{◌≡◌, Bool, true, false, cond, ◌&&◌, T, List, [], ◌∷◌, map, refl, sym, ap, ◌∙◌, subst, true≢false}
use Rattle.std.specs.declared.cmp.Ordering.{Ordering}
use Rattle.std.specs.Ordering.{eq_by_cmp, is_eq, is_lt}
use Rattle.std.specs.Cmp.{IsTotalOrder, tied_itself}
use Rattle.std.proofs.lemmas.Cmp.{back_total}
use Rattle.std.specs.FinMap.{IsAntisymmetric, is_sorted, from_sorted, entries-from_sorted}
use Rattle.std.specs.FinMap.Entries.{below_all}
use Rattle.ore_algebra.specs.Domain.{Domain}
use Rattle.ore_algebra.specs.Free.{NonZero, Free, coefficient, sum_at, terms, collect}
use Rattle.ore_algebra.proofs.FreeLaws
use Rattle.ore_monomial.specs.Monomial.{Monomial, plain_cmp}
use Rattle.ore_monomial.specs.declared.order.Order.{Order}
use Rattle.ore_monomial.specs.LetterRule.{Operator}
use Rattle.ore_monomial.specs.Numbers.{back, falling_over, AreNonZero}
use Rattle.ore_monomial.proofs.Monomials.{plain_cmp_total, plain_cmp_apart, order_total, order_apart}
use Rattle.ore_monomial.proofs.Operators

pub back_order : (o : Order) → IsTotalOrder (back o)
back_order o = back_total (order_total o)

pub back_apart : (o : Order) → IsAntisymmetric (back o)
back_apart o m n e = sym (order_apart o n m e)

module _ (K : Domain) where
  pub eq_either : {R S : Monomial → Monomial → Ordering} → IsTotalOrder R → IsAntisymmetric R → IsTotalOrder S → IsAntisymmetric S → (q m : Monomial) → eq_by_cmp R q m ≡ eq_by_cmp S q m
  eq_either {R} {S} o a p b q m = by (eq_by_cmp R q m) refl (eq_by_cmp S q m) refl
    where
      by : (x : Bool) → eq_by_cmp R q m ≡ x → (y : Bool) → eq_by_cmp S q m ≡ y → x ≡ y
      by true e true f = refl
      by false e false f = refl
      by true e false f = absurd (true≢false (sym (ap is_eq (tied_itself p q)) ∙ ap (eq_by_cmp S q) (FreeLaws.same_key K o a q m e) ∙ f))
      by false e true f = absurd (true≢false (sym (ap is_eq (tied_itself o q)) ∙ ap (eq_by_cmp R q) (FreeLaws.same_key K p b q m f) ∙ e))

-- ---- stored terms

module _ (K : Domain) where
  lift : (ts : List (Monomial × K.Number)) → AreNonZero K ts → List (Monomial × NonZero K)
  lift [] h = []
  lift (t ∷ ts) h = (t.0, record { value = t.1; apart = h.0 }) ∷ lift ts h.1

  lift_again : (ts : List (Monomial × K.Number)) (h : AreNonZero K ts) → map (λ e. (e.0, e.1.value)) (lift ts h) ≡ ts
  unfolding lift
  lift_again [] h = refl
  lift_again (t ∷ ts) h = ap (λ us. t ∷ us) (lift_again ts h.1)

  below-lift : (R : Monomial → Monomial → Ordering) (m : Monomial) (ts : List (Monomial × K.Number)) (h : AreNonZero K ts) → below_all R m (lift ts h) ≡ below_all R m ts
  unfolding lift
  below-lift R m [] h = refl
  below-lift R m (t ∷ ts) h = ap (λ b. is_lt (R m t.0) && b) (below-lift R m ts h.1)

  sorted-lift : (R : Monomial → Monomial → Ordering) (ts : List (Monomial × K.Number)) (h : AreNonZero K ts) → is_sorted R (lift ts h) ≡ is_sorted R ts
  unfolding lift
  sorted-lift R [] h = refl
  sorted-lift R (t ∷ ts) h = λ i. below-lift R t.0 ts h.1 i && sorted-lift R ts h.1 i

-- ---- falling terms

module _ (K : Domain) (o : Order) where
  pub sum_either : (q : Monomial) (ts : List (Monomial × K.Number)) → sum_at K (back o) q ts ≡ sum_at K plain_cmp q ts
  unfolding sum_at
  sum_either q [] = refl
  sum_either q (t ∷ ts) = λ i. K.plus (cond (eq_either K (back_order o) (back_apart o) plain_cmp_total plain_cmp_apart q t.0 i) t.1 K.zero) (sum_either q ts i)

  pub sum_at-falling : (f : Operator K) (q : Monomial) → sum_at K plain_cmp q (falling_over K o f) ≡ coefficient K plain_cmp f q
  unfolding falling_over
  sum_at-falling f q =
      sym (sum_either q _)
      ∙ FreeLaws.sum_at-terms K (back_order o) (back_apart o) _ q
      ∙ FreeLaws.coefficient-collect K (back_order o) (back_apart o) _ q
      ∙ sum_either q _
      ∙ FreeLaws.sum_at-terms K plain_cmp_total plain_cmp_apart f q

  pub collect-falling_over : (f : Operator K) → collect K plain_cmp (falling_over K o f) ≡ f
  collect-falling_over f = Operators.same_sum K _ f (λ q. Operators.coefficient-collect K _ q ∙ sum_at-falling f q)

  pub coefficient-back : (us : List (Monomial × K.Number)) (q : Monomial) → coefficient K (back o) (collect K (back o) (terms K plain_cmp (collect K plain_cmp us))) q ≡ sum_at K plain_cmp q us
  coefficient-back us q =
      FreeLaws.coefficient-collect K (back_order o) (back_apart o) _ q
      ∙ sum_either q _
      ∙ FreeLaws.sum_at-terms K plain_cmp_total plain_cmp_apart _ q
      ∙ Operators.coefficient-collect K us q

  stored : (ts : List (Monomial × K.Number)) → T (is_sorted (back o) ts) → AreNonZero K ts → (f : Free K (back o)) × (terms K (back o) f ≡ ts)
  unfolding terms
  stored ts s h =
      (from_sorted (lift K ts h), ap (map (λ e. (e.0, e.1.value))) (entries-from_sorted (back o) (lift K ts h) (subst T (sym (sorted-lift K (back o) ts h)) s)) ∙ lift_again K ts h)

  pub falling_from_sums : (ts us : List (Monomial × K.Number)) → T (is_sorted (back o) ts) → AreNonZero K ts → ((q : Monomial) → sum_at K plain_cmp q us ≡ sum_at K plain_cmp q ts)
      → falling_over K o (collect K plain_cmp us) ≡ ts
  unfolding falling_over
  falling_from_sums ts us falls apart same =
      let s = stored ts falls apart in
      let f = collect K (back o) (terms K plain_cmp (collect K plain_cmp us)) in
      let e : f ≡ s.0 = FreeLaws.same_sum K (back_order o) (back_apart o) f s.0 (λ q.
      coefficient-back us q
      ∙ same q
      ∙ sym (sum_either q ts)
      ∙ ap (sum_at K (back o) q) (sym s.1)
      ∙ FreeLaws.sum_at-terms K (back_order o) (back_apart o) s.0 q) in
      ap (terms K (back o)) e ∙ s.1

  pub falling_over-collect : (ts : List (Monomial × K.Number)) → T (is_sorted (back o) ts) → AreNonZero K ts → falling_over K o (collect K plain_cmp ts) ≡ ts
  falling_over-collect ts falls apart = falling_from_sums ts ts falls apart (λ q. refl)
