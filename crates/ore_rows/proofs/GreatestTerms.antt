-- The function that finds the lead of a row, beside what a lead is.
--     Among                     a term is one of a list
--     greatest_is               the greatest of some terms is one of them, and none is greater
--     among_apart, apart_among  the terms of a row are those with a coefficient
--     row_lead-Some             what the function finds is the lead, with its coefficient
--     row_lead-None             where it finds none each coefficient is none
--     row_lead_from             it finds the lead
--     row_lead-zero             it finds none in a row of zeros
--     zero_from                 where it finds none the row is zeros
use Rattle.std.proofs.Common.{◌≡◌, ◌≢◌, ◌⊎◌, inl, inr, ⊎_elim, ℕ, zero, suc, ◌+◌, Bool, true, false, cond, T, List, [], ◌∷◌, ◌++◌, length, map, get_or, refl, sym, ap, ◌∙◌, subst, arith}
use Rattle.std.specs.declared.option.Option.{Option}
use Rattle.std.specs.declared.option.Option.TheVariants.{None, Some}
use Rattle.std.specs.Ordering.{is_gt, is_eq, eq_by_cmp}
use Rattle.std.specs.Cmp.{upto, tied_itself}
use Rattle.ore_algebra.specs.Domain.{Domain}
use Rattle.ore_algebra.specs.Free.{empty_sum, coefficient, terms}
use Rattle.ore_algebra.proofs.FreeLaws.{named, same_key, apart_of_named}
use Rattle.ore_algebra.proofs.Orderings.{reversed_greater}
use Rattle.ore_monomial.specs.Monomial.{Monomial, plain_cmp}
use Rattle.ore_monomial.specs.Term.{Term, term_cmp}
use Rattle.ore_monomial.specs.declared.order.Order.{Order}
use Rattle.ore_monomial.proofs.Monomials.{plain_cmp_total, plain_cmp_apart}
use Rattle.ore_monomial.proofs.Operators
use Rattle.ore_monomial.proofs.TermOrder.{term_total}
use Rattle.ore_rows.specs.Rows.{Row, zero_row}
use Rattle.ore_rows.specs.RowLead.{coefficient_at, IsRowLead, terms_from, greatest, row_lead}
use Rattle.ore_rows.proofs.LeadAppend.{at_column}
use Rattle.ore_rows.proofs.RowLeads.{row_lead_of, one_row_lead, lead_apart_zero}

-- ---- the greatest of some terms

abbrev pub Among : Term → List Term → Type 0
Among u [] = ⊥
Among u (t ∷ ts) = (u ≡ t) ⊎ Among u ts

among_append : (u : Term) (ts us : List Term) → Among u (ts ++ us) → Among u ts ⊎ Among u us
among_append u [] us h = inr h
among_append u (t ∷ ts) us (inl e) = inl (inl e)
among_append u (t ∷ ts) us (inr h) = ⊎_elim (λ a. inl (inr a)) (λ b. inr b) (among_append u ts us h)

among_left : (u : Term) (ts us : List Term) → Among u ts → Among u (ts ++ us)
among_left u [] us h = absurd h
among_left u (t ∷ ts) us (inl e) = inl e
among_left u (t ∷ ts) us (inr h) = inr (among_left u ts us h)

among_right : (u : Term) (ts us : List Term) → Among u us → Among u (ts ++ us)
among_right u [] us h = h
among_right u (t ∷ ts) us h = inr (among_right u ts us h)

-- no term is greater than the one that is found, which is one of them; where none is found there is none
abbrev IsGreatest : Order → List Term → Option Term → Type 0
IsGreatest o ts None = (u : Term) → Among u ts → ⊥
IsGreatest o ts (Some t) = Among t ts × ((u : Term) → Among u ts → is_gt (term_cmp o u t) ≡ false)

greatest_is : (o : Order) (ts : List Term) → IsGreatest o ts (greatest o ts)
unfolding greatest
greatest_is o [] = λ u h. h
greatest_is o (t ∷ ts) = by (greatest o ts) (greatest_is o ts)
  where
    itself : is_gt (term_cmp o t t) ≡ false
    itself = ap is_gt (tied_itself (term_total o) t)

    by : (g : Option Term) → IsGreatest o ts g → IsGreatest o (t ∷ ts) (elim g [ None ↦ Some t | Some u ↦ Some (cond (is_gt (term_cmp o t u)) t u) ])
    by None h = (inl refl, λ u k. ⊎_elim (λ e. ap (λ x. is_gt (term_cmp o x t)) e ∙ itself) (λ a. absurd (h u a)) k)
    by (Some u) (i, up) = pick (is_gt (term_cmp o t u)) refl
      where
        pick : (b : Bool) → is_gt (term_cmp o t u) ≡ b → Among (cond b t u) (t ∷ ts) × ((x : Term) → Among x (t ∷ ts) → is_gt (term_cmp o x (cond b t u)) ≡ false)
        pick true e = (inl refl, λ x k. ⊎_elim (λ s. ap (λ y. is_gt (term_cmp o y t)) s ∙ itself) (λ a. upto (term_total o) x u t (up x a) (ap is_gt ((term_total o).antisymm u t) ∙ reversed_greater _ e)) k)
        pick false e = (inr i, λ x k. ⊎_elim (λ s. ap (λ y. is_gt (term_cmp o y u)) s ∙ e) (λ a. up x a) k)

-- ---- the terms of a row

module _ (K : Domain) where
  abbrev NamedIn : Monomial → List (Monomial × K.Number) → Type 0
  NamedIn m ts = T (named K plain_cmp_total plain_cmp_apart m ts)

  named_among : (m : Monomial) (j : ℕ) (ts : List (Monomial × K.Number)) → NamedIn m ts → Among (at_column j m) (map (λ t. at_column j t.0) ts)
  unfolding named
  named_among m j [] h = h
  named_among m j (t ∷ ts) h = by (eq_by_cmp plain_cmp m t.0) refl h (named_among m j ts)
    where
      by : (b : Bool) → eq_by_cmp plain_cmp m t.0 ≡ b → T (cond b true (named K plain_cmp_total plain_cmp_apart m ts)) → (NamedIn m ts → Among (at_column j m) (map (λ t. at_column j t.0) ts))
          → Among (at_column j m) (map (λ t. at_column j t.0) (t ∷ ts))
      by true e h more = inl (λ i. at_column j (same_key K plain_cmp_total plain_cmp_apart m t.0 e i))
      by false e h more = inr (more h)

  among_named : (u : Term) (j : ℕ) (ts : List (Monomial × K.Number)) → Among u (map (λ t. at_column j t.0) ts) → (u.column ≡ j) × NamedIn u.monomial ts
  unfolding named
  among_named u j [] h = absurd h
  among_named u j (t ∷ ts) (inl e) =
      let own : eq_by_cmp plain_cmp u.monomial t.0 ≡ true = ap (λ p. eq_by_cmp plain_cmp p.monomial t.0) e ∙ ap is_eq (tied_itself plain_cmp_total t.0) in
      (ap (λ p. p.column) e, subst (λ b. T (cond b true (named K plain_cmp_total plain_cmp_apart u.monomial ts))) (sym own) tt)
  among_named u j (t ∷ ts) (inr h) = let r = among_named u j ts h in (r.0, later (eq_by_cmp plain_cmp u.monomial t.0) r.1)
    where
      later : (b : Bool) → NamedIn u.monomial ts → T (cond b true (named K plain_cmp_total plain_cmp_apart u.monomial ts))
      later true n = tt
      later false n = n

  apart_from : (j c : ℕ) (r : Row K) (m : Monomial) → coefficient K plain_cmp (get_or r c (empty_sum K plain_cmp)) m ≢ K.zero → Among (at_column (j + c) m) (terms_from K j r)
  unfolding terms_from
  apart_from j c [] m h = absurd (h (Operators.coefficient-empty_sum K m))
  apart_from j zero (f ∷ r) m h = subst (λ k. Among (at_column k m) (terms_from K j (f ∷ r))) (let e : j ≡ j + 0 = omega arith in e) (among_left _ _ _ (named_among m j (terms K plain_cmp f) (Operators.named_of_apart K f m h)))
  apart_from j (suc c) (f ∷ r) m h = among_right _ _ _ (subst (λ k. Among (at_column k m) (terms_from K (suc j) r)) (let e : suc j + c ≡ j + suc c = omega arith in e) (apart_from (suc j) c r m h))

  from_apart : (j : ℕ) (r : Row K) (u : Term) → Among u (terms_from K j r) → (c : ℕ) × (u.column ≡ j + c) × (coefficient K plain_cmp (get_or r c (empty_sum K plain_cmp)) u.monomial ≢ K.zero)
  unfolding terms_from
  from_apart j [] u h = absurd h
  from_apart j (f ∷ r) u h = ⊎_elim
      (λ a. let n = among_named u j (terms K plain_cmp f) a in (0, let e = n.0 in omega arith, apart_of_named K plain_cmp_total plain_cmp_apart f u.monomial n.1))
      (λ a. let n = from_apart (suc j) r u a in (suc n.0, let e = n.1 in omega arith, n.2))
      (among_append u _ _ h)

  pub apart_among : (r : Row K) (u : Term) → coefficient_at K r u ≢ K.zero → Among u (terms_from K 0 r)
  apart_among r u h = subst (λ k. Among (at_column k u.monomial) (terms_from K 0 r)) (let e : 0 + u.column ≡ u.column = omega arith in e) (apart_from 0 u.column r u.monomial h)

  pub among_apart : (r : Row K) (u : Term) → Among u (terms_from K 0 r) → coefficient_at K r u ≢ K.zero
  among_apart r u h =
      let n = from_apart 0 r u h in
      let e : n.0 ≡ u.column = let f = n.1 in omega arith in
      subst (λ c. coefficient K plain_cmp (get_or r c (empty_sum K plain_cmp)) u.monomial ≢ K.zero) e n.2

-- ---- the lead of a row

module _ (K : Domain) (o : Order) where
  pub row_lead-Some : (r : Row K) (t : Term) → row_lead K o r ≡ Some t → IsRowLead K o r t (coefficient_at K r t)
  unfolding row_lead
  row_lead-Some r t e = let g = subst (IsGreatest o (terms_from K 0 r)) e (greatest_is o (terms_from K 0 r)) in
      record { stands = refl; apart = among_apart K r t g.0; greatest = λ u h. g.1 u (apart_among K r u h) }

  pub row_lead-None : (r : Row K) → row_lead K o r ≡ None → (u : Term) → coefficient_at K r u ≡ K.zero
  unfolding row_lead
  row_lead-None r e u = by (K.discrete (coefficient_at K r u) K.zero)
    where
      by : Dec (coefficient_at K r u ≡ K.zero) → coefficient_at K r u ≡ K.zero
      by (yes z) = z
      by (no n) = absurd ((subst (IsGreatest o (terms_from K 0 r)) e (greatest_is o (terms_from K 0 r))) u (apart_among K r u n))

  pub row_lead_from : (r : Row K) (t : Term) (k : K.Number) → IsRowLead K o r t k → row_lead K o r ≡ Some t
  row_lead_from r t k a = by (row_lead K o r) refl
    where
      by : (found : Option Term) → row_lead K o r ≡ found → found ≡ Some t
      by None e = absurd (a.apart (sym a.stands ∙ row_lead-None r e t))
      by (Some u) e = ap Some (one_row_lead K o r u t _ k (row_lead-Some r u e) a).0

  pub zero_from : (r : Row K) → row_lead K o r ≡ None → r ≡ zero_row K (length r)
  zero_from r e = ⊎_elim (λ z. z) (λ a. absurd ((a.1).apart (row_lead-None r e a.0))) (row_lead_of K o r)

  pub row_lead-zero : (n : ℕ) (r : Row K) → r ≡ zero_row K n → row_lead K o r ≡ None
  row_lead-zero n r z = by (row_lead K o r) refl
    where
      by : (found : Option Term) → row_lead K o r ≡ found → found ≡ None
      by None e = refl
      by (Some t) e = absurd (lead_apart_zero K o n r t _ (row_lead-Some r t e) z)
