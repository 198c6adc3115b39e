-- The lead of a row with one more entry, over any domain.
--     at_column                 a monomial in a column
--     coefficient-append_left, coefficient-append_own     the coefficient of a term before the new entry, and at it
--     within_row                what has a coefficient stands within the row
--     later_column              a term of a later column is greater where its monomial is
--     Tops, TopsEntry           no term of a row, and none of the new entry, is greater than a term
--     lead-append_zero          the lead stays where a zero is appended
--     lead-append_first         it is that of the appended entry where all before are zero
--     lead-append_less, lead-append_greater     and else the greater of both
use Rattle.std.proofs.Common.{◌≡◌, ◌≢◌, ℕ, ◌<◌, true, false, [], ◌∷◌, ◌++◌, length, refl, sym, ap, ◌∙◌, arith}
use native.Mathlib.Decide.{dec_lt}
use Rattle.std.specs.declared.cmp.Ordering.{Ordering}
use Rattle.std.specs.declared.cmp.Ordering.TheVariants.{Less, Equal, Greater}
use Rattle.std.specs.Ordering.{is_gt, nat_cmp, ordering_then}
use Rattle.std.specs.Cmp.{upto}
use Rattle.std.specs.List.{All}
use Rattle.std.proofs.lemmas.Bool.Decides.{nat_tests}
use Rattle.std.proofs.lemmas.List.{get_or_append_left, get_or_push, get_or_past, length_push}
use Rattle.ore_algebra.specs.Domain.{Domain}
use Rattle.ore_algebra.specs.Free.{empty_sum, coefficient}
use Rattle.ore_algebra.proofs.Orderings.{reversed_greater}
use Rattle.ore_monomial.specs.Monomial.{Monomial, order_cmp, plain_cmp}
use Rattle.ore_monomial.specs.Term.{Term, term_cmp}
use Rattle.ore_monomial.specs.declared.order.Order.{Order}
use Rattle.ore_monomial.specs.LetterRule.{Operator}
use Rattle.ore_monomial.proofs.Operators
use Rattle.ore_monomial.proofs.TermOrder.{term_total, term_one_column}
use Rattle.ore_ring.specs.Lead.{IsLead}
use Rattle.ore_rows.specs.Rows.{Row}
use Rattle.ore_rows.specs.RowLead.{coefficient_at, IsRowLead}

-- a term of the column j
abbrev pub at_column : ℕ → Monomial → Term
at_column j q = record { monomial = q; column = j }

module _ (K : Domain) (r : Row K) (f : Operator K) where
  pub coefficient-append_left : (u : Term) → u.column < length r → coefficient_at K (r ++ f ∷ []) u ≡ coefficient_at K r u
  coefficient-append_left u h = ap (λ g. coefficient K plain_cmp g u.monomial) (get_or_append_left r (f ∷ []) (empty_sum K plain_cmp) u.column h)

  pub coefficient-append_own : (u : Term) → length r ≡ u.column → coefficient_at K (r ++ f ∷ []) u ≡ coefficient K plain_cmp f u.monomial
  coefficient-append_own u h = ap (λ g. coefficient K plain_cmp g u.monomial) (get_or_push r f (empty_sum K plain_cmp) u.column h)

-- what has a coefficient stands within the row
pub within_row : (K : Domain) (r : Row K) (u : Term) → coefficient_at K r u ≢ K.zero → u.column < length r
within_row K r u h = by (dec_lt u.column (length r))
  where
    by : Dec (u.column < length r) → u.column < length r
    by (yes l) = l
    by (no n) = absurd (h (ap (λ g. coefficient K plain_cmp g u.monomial) (get_or_past r u.column (empty_sum K plain_cmp) (omega arith)) ∙ Operators.coefficient-empty_sum K u.monomial))

-- a term of a later column is greater where its monomial is
pub later_column : (o : Order) (m : Monomial) (k : ℕ) (t : Term) → t.column < k → is_gt (term_cmp o (at_column k m) t) ≡ is_gt (order_cmp o m t.monomial)
later_column o m k t h = ap (λ c. is_gt (ordering_then (order_cmp o m t.monomial) c)) (let less : nat_cmp t.column k ≡ Less = grind (arith, nat_tests) in less) ∙ by (order_cmp o m t.monomial)
  where
    by : (c : Ordering) → is_gt (ordering_then c Less) ≡ is_gt c
    by Less = refl
    by Equal = refl
    by Greater = refl

module _ (K : Domain) (o : Order) (r : Row K) (f : Operator K) where
  -- no term with a coefficient is greater than t
  abbrev pub Tops : Row K → Term → Type 0
  Tops x t = (u : Term) → coefficient_at K x u ≢ K.zero → is_gt (term_cmp o u t) ≡ false

  abbrev pub TopsEntry : Term → Type 0
  TopsEntry t = (q : Monomial) → coefficient K plain_cmp f q ≢ K.zero → is_gt (term_cmp o (at_column (length r) q) t) ≡ false

  tops-append : (t : Term) → Tops r t → TopsEntry t → Tops (r ++ f ∷ []) t
  tops-append t a b u h = by (dec_lt u.column (length r))
    where
      by : Dec (u.column < length r) → is_gt (term_cmp o u t) ≡ false
      by (yes l) = a u (λ e. h (coefficient-append_left K r f u l ∙ e))
      by (no n) =
          let inside = within_row K (r ++ f ∷ []) u h in
          let long = length_push r f in
          let here : length r ≡ u.column = omega arith in
          ap (λ j. is_gt (term_cmp o (at_column j u.monomial) t)) (sym here) ∙ b u.monomial (λ e. h (coefficient-append_own K r f u here ∙ e))

  -- the terms of an entry with a lead
  entry_tops : (m : Monomial) (k : K.Number) → IsLead K o f m k → TopsEntry (at_column (length r) m)
  entry_tops m k a q h = ap is_gt (term_one_column o q m (length r)) ∙ a.greatest q h

  pub lead-append_zero : (t : Term) (k : K.Number) → f ≡ empty_sum K plain_cmp → IsRowLead K o r t k → IsRowLead K o (r ++ f ∷ []) t k
  lead-append_zero t k e a = record {
    stands = coefficient-append_left K r f t (within_row K r t (λ z. a.apart (sym a.stands ∙ z))) ∙ a.stands;
    apart = a.apart;
    greatest = tops-append t a.greatest (λ q h. absurd (h (ap (λ g. coefficient K plain_cmp g q) e ∙ Operators.coefficient-empty_sum K q)));
  }

  -- all terms of a row of zeros
  zeros_top : All (λ g. g ≡ empty_sum K plain_cmp) r → (t : Term) → Tops r t
  zeros_top z t u h = absurd (h (ap (λ g. coefficient K plain_cmp g u.monomial) (z u.column (empty_sum K plain_cmp) (within_row K r u h)) ∙ Operators.coefficient-empty_sum K u.monomial))

  pub lead-append_first : (m : Monomial) (k : K.Number) → All (λ g. g ≡ empty_sum K plain_cmp) r → IsLead K o f m k → IsRowLead K o (r ++ f ∷ []) (at_column (length r) m) k
  lead-append_first m k z a = record {
    stands = coefficient-append_own K r f (at_column (length r) m) refl ∙ a.stands;
    apart = a.apart;
    greatest = tops-append _ (zeros_top z _) (entry_tops m k a);
  }

  module _ (t : Term) (j : K.Number) (m : Monomial) (k : K.Number) (a : IsRowLead K o r t j) (b : IsLead K o f m k) where
    inside : t.column < length r
    inside = within_row K r t (λ z. a.apart (sym a.stands ∙ z))

    pub lead-append_less : is_gt (order_cmp o m t.monomial) ≡ false → IsRowLead K o (r ++ f ∷ []) t j
    lead-append_less h = record {
      stands = coefficient-append_left K r f t inside ∙ a.stands;
      apart = a.apart;
      greatest = tops-append t a.greatest (λ q v. upto (term_total o) _ (at_column (length r) m) t (entry_tops m k b q v) (later_column o m (length r) t inside ∙ h));
    }

    pub lead-append_greater : is_gt (order_cmp o m t.monomial) ≡ true → IsRowLead K o (r ++ f ∷ []) (at_column (length r) m) k
    lead-append_greater h = record {
      stands = coefficient-append_own K r f (at_column (length r) m) refl ∙ b.stands;
      apart = b.apart;
      greatest = tops-append _ (λ u v. upto (term_total o) u t _ (a.greatest u v) (not_above (later_column o m (length r) t inside ∙ h))) (entry_tops m k b);
    }
      where
        not_above : is_gt (term_cmp o (at_column (length r) m) t) ≡ true → is_gt (term_cmp o t (at_column (length r) m)) ≡ false
        not_above e = ap is_gt ((term_total o).antisymm t (at_column (length r) m)) ∙ reversed_greater _ e
