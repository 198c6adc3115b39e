-- Leads of rows, over any domain.
--     row_lead_of               a row is zeros or has a lead
--     one_row_lead              it has no second lead
--     lead_apart_zero           a row with a lead isn't zeros
--     entry_lead                in its own column the lead of a row is the lead of the entry
--     lead-single               the lead of one term
--     lead-row_scale            the lead of an operator times a row: exponents add, coefficients multiply
--     lead-row_scale_term       and of a term times a row
--     below-row_minus           two rows with one lead and one coefficient differ by what is below it
use Rattle.std.proofs.Common.{◌≡◌, ◌≢◌, ◌⊎◌, inl, inr, ⊎_elim, ℕ, zero, suc, ◌+◌, ◌≤◌, Bool, true, false, [], ◌∷◌, ◌++◌, length, take, get_or, refl, sym, ap, ◌∙◌, subst, true≢false, arith}
use Rattle.std.specs.declared.cmp.Ordering.{Ordering}
use Rattle.std.specs.declared.cmp.Ordering.TheVariants.{Less, Equal, Greater}
use Rattle.std.specs.Ordering.{is_gt, is_eq}
use Rattle.std.specs.Cmp.{upto, tied_itself}
use Rattle.std.specs.List.{All}
use Rattle.std.proofs.lemmas.List.{ext_get_or, take_more, take_all, length-replicate, get_or-replicate}
use Rattle.std.proofs.lemmas.List.Elements.{All-nil, All-push}
use Rattle.ore_algebra.specs.Domain.{Domain}
use Rattle.ore_algebra.specs.Free.{empty_sum, single, coefficient}
use Rattle.ore_monomial.specs.Monomial.{Monomial, product, order_cmp, plain_cmp}
use Rattle.ore_monomial.specs.Term.{Term, term_cmp, shift}
use Rattle.ore_monomial.specs.declared.order.Order.{Order}
use Rattle.ore_monomial.specs.Signature.{Signature, IsLawful}
use Rattle.ore_monomial.specs.LetterRule.{Operator}
use Rattle.ore_monomial.proofs.Monomials.{order_total, order_apart}
use Rattle.ore_monomial.proofs.Operators
use Rattle.ore_monomial.proofs.TermOrder.{term_total, term_apart, term-shift, term_one_column}
use Rattle.ore_ring.specs.Lead.{IsLead}
use Rattle.ore_ring.specs.Product.{times}
use Rattle.ore_ring.proofs.Leads.{times-lead, both_upto}
use Rattle.ore_ring.proofs.NoZeroDivisor.{lead_of}
use Rattle.ore_ring.proofs.Product.{times-linear_right}
use Rattle.ore_rows.specs.Rows.{Row, zero_row, row_minus, row_scale}
use Rattle.ore_rows.specs.RowLead.{coefficient_at, IsRowLead, IsRowBelow}
use Rattle.ore_rows.proofs.Differences.{coefficient-row_minus}
use Rattle.ore_rows.proofs.LeadAppend.{at_column, lead-append_zero, lead-append_first, lead-append_less, lead-append_greater}
use Rattle.ore_rows.proofs.RowLaws as Rows

module _ (K : Domain) (o : Order) where
  abbrev Found : Row K → Type 0
  Found r = All (λ f. f ≡ empty_sum K plain_cmp) r ⊎ ((t : Term) × (k : K.Number) × IsRowLead K o r t k)

  more : (r : Row K) (f : Operator K) → Found r → (f ≡ empty_sum K plain_cmp) ⊎ ((m : Monomial) × IsLead K o f m (coefficient K plain_cmp f m)) → Found (r ++ f ∷ [])
  more r f (inl z) (inl e) = inl (All-push (λ f. f ≡ empty_sum K plain_cmp) r f z e)
  more r f (inl z) (inr (m, a)) = inr (at_column (length r) m, coefficient K plain_cmp f m, lead-append_first K o r f m _ z a)
  more r f (inr (t, k, a)) (inl e) = inr (t, k, lead-append_zero K o r f t k e a)
  more r f (inr (t, k, a)) (inr (m, b)) = by (is_gt (order_cmp o m t.monomial)) refl
    where
      by : (c : Bool) → is_gt (order_cmp o m t.monomial) ≡ c → Found (r ++ f ∷ [])
      by true h = inr (at_column (length r) m, coefficient K plain_cmp f m, lead-append_greater K o r f t k m _ a b h)
      by false h = inr (t, k, lead-append_less K o r f t k m _ a b h)

  found : (r : Row K) (j : ℕ) → j ≤ length r → Found (take j r)
  found r zero h = inl (All-nil (λ f. f ≡ empty_sum K plain_cmp))
  found r (suc j) h =
      let f : Operator K = get_or r j (empty_sum K plain_cmp) in
      let one_more : take (suc j) r ≡ take j r ++ f ∷ [] = ap (λ k. take k r) (let e : suc j ≡ j + 1 = omega arith in e) ∙ take_more r j (empty_sum K plain_cmp) (omega arith) in
      subst Found (sym one_more) (more (take j r) f (found r j (omega arith)) (lead_of K o f))

  zeros_are : (r : Row K) → All (λ f. f ≡ empty_sum K plain_cmp) r → r ≡ zero_row K (length r)
  unfolding zero_row
  zeros_are r z = ext_get_or (empty_sum K plain_cmp) r _ (sym (length-replicate (length r) (empty_sum K plain_cmp))) (λ i h. z i (empty_sum K plain_cmp) h ∙ sym (get_or-replicate (length r) i (empty_sum K plain_cmp) (empty_sum K plain_cmp) h))

  pub row_lead_of : (r : Row K) → (r ≡ zero_row K (length r)) ⊎ ((t : Term) × IsRowLead K o r t (coefficient_at K r t))
  row_lead_of r = ⊎_elim
      (λ z. inl (zeros_are r z))
      (λ a. inr (a.0, subst (IsRowLead K o r a.0) (sym a.2.stands) a.2))
      (subst Found (take_all (length r) r (omega arith)) (found r (length r) (omega arith)))

  zero_at : (n j : ℕ) → get_or (zero_row K n) j (empty_sum K plain_cmp) ≡ empty_sum K plain_cmp
  unfolding zero_row
  zero_at zero j = refl
  zero_at (suc n) zero = refl
  zero_at (suc n) (suc j) = zero_at n j

  pub lead_apart_zero : (n : ℕ) (r : Row K) (t : Term) (k : K.Number) → IsRowLead K o r t k → r ≢ zero_row K n
  lead_apart_zero n r t k a e = a.apart (sym a.stands ∙ ap (λ q. coefficient_at K q t) e ∙ ap (λ f. coefficient K plain_cmp f t.monomial) (zero_at n t.column) ∙ Operators.coefficient-empty_sum K t.monomial)

  pub one_row_lead : (r : Row K) (t u : Term) (j k : K.Number) → IsRowLead K o r t j → IsRowLead K o r u k → (t ≡ u) × (j ≡ k)
  one_row_lead r t u j k a b = (same, sym a.stands ∙ ap (coefficient_at K r) same ∙ b.stands)
    where
      same : t ≡ u
      same = term_apart o t u (both_upto _ (b.greatest t (λ e. a.apart (sym a.stands ∙ e))) (ap is_gt (sym ((term_total o).antisymm u t)) ∙ a.greatest u (λ e. b.apart (sym b.stands ∙ e))))

  pub entry_lead : (r : Row K) (t : Term) (k : K.Number) → IsRowLead K o r t k → IsLead K o (get_or r t.column (empty_sum K plain_cmp)) t.monomial k
  entry_lead r t k a = record {
    stands = a.stands;
    apart = a.apart;
    greatest = λ q u. ap is_gt (sym (term_one_column o q t.monomial t.column)) ∙ a.greatest (at_column t.column q) u;
  }

  pub lead-single : (m : Monomial) (c : K.Number) → c ≢ K.zero → IsLead K o (single K plain_cmp m c) m c
  lead-single m c h = record {
    stands = Operators.coefficient-own K m c;
    apart = h;
    greatest = λ q u. ap (λ p. is_gt (order_cmp o p m)) (only q u) ∙ ap is_gt (tied_itself (order_total o) m);
  }
    where
      only : (q : Monomial) → coefficient K plain_cmp (single K plain_cmp m c) q ≢ K.zero → q ≡ m
      only q u = by (order_cmp o q m) refl
        where
          by : (r : Ordering) → order_cmp o q m ≡ r → q ≡ m
          by Less e = absurd (u (Operators.coefficient-other K m c q (λ p. true≢false (ap is_eq (sym (tied_itself (order_total o) m) ∙ ap (λ x. order_cmp o x m) (sym p) ∙ e)))))
          by Equal e = order_apart o q m e
          by Greater e = absurd (u (Operators.coefficient-other K m c q (λ p. true≢false (ap is_eq (sym (tied_itself (order_total o) m) ∙ ap (λ x. order_cmp o x m) (sym p) ∙ e)))))

module _ (K : Domain) (s : Signature) (lawful : IsLawful s) (o : Order) where
  times_blank : (f g : Operator K) → g ≡ empty_sum K plain_cmp → times K s f g ≡ empty_sum K plain_cmp
  times_blank f g e = ap (times K s f) e ∙ Operators.linear-empty_sum K (times-linear_right K s f)

  -- exponents add, coefficients multiply, and the column stays
  pub lead-row_scale : (f : Operator K) (m : Monomial) (j : K.Number) (r : Row K) (t : Term) (k : K.Number) → IsLead K o f m j → IsRowLead K o r t k → IsRowLead K o (row_scale K s f r) (shift m t) (K.times j k)
  lead-row_scale f m j r t k a b = record {
    stands = ap (λ g. coefficient K plain_cmp g (product m t.monomial)) (Rows.entry-row_scale K s f r t.column) ∙ (times-lead K s lawful o a (entry_lead K o r t k b)).stands;
    apart = K.times_apart j k a.apart b.apart;
    greatest = λ u h. upto_shift u (λ e. h (ap (λ g. coefficient K plain_cmp g u.monomial) (Rows.entry-row_scale K s f r u.column) ∙ e)) (lead_of K o (get_or r u.column (empty_sum K plain_cmp)));
  }
    where
      upto_shift : (u : Term) → coefficient K plain_cmp (times K s f (get_or r u.column (empty_sum K plain_cmp))) u.monomial ≢ K.zero
          → (get_or r u.column (empty_sum K plain_cmp) ≡ empty_sum K plain_cmp) ⊎ ((q : Monomial) × IsLead K o (get_or r u.column (empty_sum K plain_cmp)) q (coefficient K plain_cmp (get_or r u.column (empty_sum K plain_cmp)) q)) → is_gt (term_cmp o u (shift m t)) ≡ false
      upto_shift u h (inl e) = absurd (h (ap (λ g. coefficient K plain_cmp g u.monomial) (times_blank f _ e) ∙ Operators.coefficient-empty_sum K u.monomial))
      upto_shift u h (inr (q, c)) =
          let v : Term = at_column u.column q in
          upto (term_total o) u (shift m v) (shift m t)
          (ap is_gt (term_one_column o u.monomial (product m q) u.column) ∙ (times-lead K s lawful o a c).greatest u.monomial h)
          (ap is_gt (term-shift o m v t) ∙ b.greatest v c.apart)

  pub lead-row_scale_term : (m : Monomial) (c : K.Number) (r : Row K) (t : Term) (k : K.Number) → c ≢ K.zero → IsRowLead K o r t k → IsRowLead K o (row_scale K s (single K plain_cmp m c) r) (shift m t) (K.times c k)
  lead-row_scale_term m c r t k h = lead-row_scale (single K plain_cmp m c) m c r t k (lead-single K o m c h)

module _ (K : Domain) (s : Signature) (o : Order) where
  pub below-row_minus : (r q : Row K) (t : Term) (k : K.Number) → length r ≡ length q → IsRowLead K o r t k → IsRowLead K o q t k → IsRowBelow K o t (row_minus K r q)
  below-row_minus r q t k l a b u h = by (term_cmp o u t) refl
    where
      blank : (x : Row K) → IsRowLead K o x t k → term_cmp o u t ≡ Greater → coefficient_at K x u ≡ K.zero
      blank x c e = decided (K.discrete (coefficient_at K x u) K.zero)
        where
          decided : Dec (coefficient_at K x u ≡ K.zero) → coefficient_at K x u ≡ K.zero
          decided (yes z) = z
          decided (no n) = absurd (true≢false (ap is_gt (sym e) ∙ c.greatest u n))

      by : (c : Ordering) → term_cmp o u t ≡ c → c ≡ Less
      by Less e = refl
      by Equal e = absurd (h (ap (coefficient_at K (row_minus K r q)) (term_apart o u t e) ∙ coefficient-row_minus K s r q t l ∙ (λ i. K.plus (a.stands i) (K.minus (b.stands i))) ∙ K.plus_minus k))
      by Greater e = absurd (h (coefficient-row_minus K s r q u l ∙ (λ i. K.plus (blank r a e i) (K.minus (blank q b e i))) ∙ K.plus_minus K.zero))
