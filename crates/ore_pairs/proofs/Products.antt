-- A row of cofactors times a monic basis.
--     IsLeadDivided            one of the first n leads stands in the column of t and divides it
--     lead_within              the lead of a basis row stands within the row
--     declared_leads           the leads of a basis of the signature are of it
--     at                       the coefficient that a row of cofactors times the basis has at t
--     at-zero_row, at-row_plus, at-place     it is additive
--     lead-product             the lead of an operator times a basis row
--     at_most-combine          a product is at most what the weights are at most
use Rattle.std.proofs.Common.{◌≡◌, ◌≢◌, ◌⊎◌, inl, inr, ℕ, ◌<◌, false, List, [], length, get_or, sym, ap, ◌∙◌, subst, arith}
use Rattle.std.specs.Ordering.{is_gt}
use Rattle.std.specs.Cmp.{upto}
use Rattle.std.specs.List.{AllByRecursion}
use Rattle.std.proofs.ByRecursion.{All-get_or}
use Rattle.std.proofs.lemmas.List.{get_or_past}
use native.Mathlib.Decide.{dec_lt}
use Rattle.ore_algebra.specs.Domain.{Domain}
use Rattle.ore_algebra.specs.Free.{empty_sum, coefficient}
use Rattle.ore_monomial.specs.Monomial.{Monomial, unit, Divides, plain_cmp}
use Rattle.ore_monomial.specs.Term.{Term, term_cmp}
use Rattle.ore_monomial.specs.declared.order.Order.{Order}
use Rattle.ore_monomial.specs.Signature.{Signature, MonomialOf, IsLawful}
use Rattle.ore_monomial.specs.LetterRule.{Operator}
use Rattle.ore_monomial.proofs.Declared.{MonomialOf-unit}
use Rattle.ore_monomial.proofs.TermOrder.{term_total}
use Rattle.ore_monomial.proofs.Operators
use Rattle.ore_ring.specs.Lead.{IsLead}
use Rattle.ore_ring.proofs.NoZeroDivisor.{lead_of}
use Rattle.ore_rows.specs.Rows.{Row, RowOf, AreLong, zero_row, row_plus, row_scale, combine}
use Rattle.ore_rows.specs.RowLead.{coefficient_at, IsRowLead}
use Rattle.ore_rows.proofs.RowLaws as Rows
use Rattle.ore_rows.proofs.RowLeads.{lead-row_scale}
use Rattle.ore_pairs.specs.Steps.{row_at, lead_at, AreLeads}
use Rattle.ore_pairs.proofs.RowSums.{of_entry}
use Rattle.ore_pairs.proofs.Places.{place, combine-place, by_places}
use Rattle.ore_pairs.proofs.BelowModulo.{weight, AreWeightsAtMost}

abbrev pub IsLeadDivided : ℕ → List Term → Term → Type 0
IsLeadDivided n leads t = (i : ℕ) × (i < n) × ((lead_at leads i).column ≡ t.column) × Divides (lead_at leads i).monomial t.monomial

module _ (K : Domain) (s : Signature) (o : Order) (basis : List (Row K)) (leads : List Term) (monic : AreLeads K o basis leads) where
  pub declared_leads : AllByRecursion (RowOf K s) basis → (k : ℕ) → MonomialOf s (lead_at leads k).monomial
  declared_leads of k = by (dec_lt k (length basis))
    where
      by : Dec (k < length basis) → MonomialOf s (lead_at leads k).monomial
      by (yes l) =
          let lead = monic.monic k l in
          of_entry K s (row_at basis k) (lead_at leads k).column (All-get_or (RowOf K s) basis k [] l of) (lead_at leads k).monomial (λ e. lead.apart (sym lead.stands ∙ e))
      by (no a) = subst (λ (t : Term). MonomialOf s t.monomial) (sym (get_or_past leads k (record { monomial = unit; column = 0 }) (let e = monic.long in omega arith))) (MonomialOf-unit s)

module _ (K : Domain) (s : Signature) (lawful : IsLawful s) (o : Order) (p : ℕ) (basis : List (Row K)) (leads : List Term) (long : AreLong K p basis) (monic : AreLeads K o basis leads) where
  abbrev n : ℕ
  n = length basis

  size : (k : ℕ) → k < n → length (row_at basis k) ≡ p
  size k h = Rows.row_at K s p basis k long h

  pub lead_within : (k : ℕ) → k < n → (lead_at leads k).column < p
  lead_within k h = by (dec_lt (lead_at leads k).column p)
    where
      by : Dec ((lead_at leads k).column < p) → (lead_at leads k).column < p
      by (yes l) = l
      by (no a) =
          let lead = monic.monic k h in
          let e = size k h in
          absurd (lead.apart (sym lead.stands ∙ ap (λ f. coefficient K plain_cmp f (lead_at leads k).monomial) (get_or_past (row_at basis k) (lead_at leads k).column (empty_sum K plain_cmp) (omega arith)) ∙ Operators.coefficient-empty_sum K _))

  abbrev pub at : Term → Row K → K.Number
  at t z = coefficient_at K (combine K s p z basis) t

  pub nothing_at : (m : ℕ) (t : Term) → coefficient_at K (zero_row K m) t ≡ K.zero
  nothing_at m t = ap (λ f. coefficient K plain_cmp f t.monomial) (Rows.entry-zero_row K s m t.column) ∙ Operators.coefficient-empty_sum K t.monomial

  pub at-zero_row : (t : Term) → at t (zero_row K n) ≡ K.zero
  at-zero_row t = ap (λ r. coefficient_at K r t) (Rows.combine-zero K s n p basis long) ∙ nothing_at p t

  pub at-row_plus : (t : Term) (a b : Row K) → length a ≡ length b → at t (row_plus K a b) ≡ K.plus (at t a) (at t b)
  at-row_plus t a b e =
      ap (λ r. coefficient_at K r t) (Rows.combine-plus K s p a b basis e)
      ∙ ap (λ f. coefficient K plain_cmp f t.monomial) (Rows.entry-row_plus K s _ _ t.column (Rows.length-combine K s lawful p a basis long ∙ sym (Rows.length-combine K s lawful p b basis long)))
      ∙ Operators.coefficient-plus K _ _ t.monomial

  pub at-place : (t : Term) (k : ℕ) (f : Operator K) → k < n → at t (place K s n k f) ≡ coefficient_at K (row_scale K s f (row_at basis k)) t
  at-place t k f h = ap (λ r. coefficient_at K r t) (combine-place K s lawful p k f basis h long)

  pub lead-product : (k : ℕ) (f : Operator K) (m : Monomial) (j : K.Number) → k < n → IsLead K o f m j → IsRowLead K o (row_scale K s f (row_at basis k)) (weight leads k m) (K.times j K.one)
  lead-product k f m j h a = lead-row_scale K s lawful o f m j (row_at basis k) (lead_at leads k) K.one a (monic.monic k h)

  pub at_most-combine : (t : Term) (z : Row K) → length z ≡ n → AreWeightsAtMost K o leads t z → (u : Term) → at u z ≢ K.zero → is_gt (term_cmp o u t) ≡ false
  at_most-combine t z l h u = by_places K s lawful (λ z. at u z ≢ K.zero → is_gt (term_cmp o u t) ≡ false) n z l
      (λ a. absurd (a (at-zero_row u)))
      (λ a b la lb pa pb x. both a b pa pb (K.discrete (at u a) K.zero) (λ e. x (at-row_plus u a b (la ∙ sym lb) ∙ e)))
      (λ k kl x. one k kl (λ e. x (at-place u k (get_or z k (empty_sum K plain_cmp)) kl ∙ e)) (lead_of K o (get_or z k (empty_sum K plain_cmp))))
    where
      both : (a b : Row K) → (at u a ≢ K.zero → is_gt (term_cmp o u t) ≡ false) → (at u b ≢ K.zero → is_gt (term_cmp o u t) ≡ false) → Dec (at u a ≡ K.zero) → (K.plus (at u a) (at u b) ≢ K.zero) → is_gt (term_cmp o u t) ≡ false
      both a b pa pb (yes e) x = pb (λ f. x ((λ i. K.plus (e i) (f i)) ∙ K.plus_zero K.zero))
      both a b pa pb (no d) x = pa d

      f : ℕ → Operator K
      f k = get_or z k (empty_sum K plain_cmp)

      one : (k : ℕ) → k < n → coefficient_at K (row_scale K s (f k) (row_at basis k)) u ≢ K.zero
          → (f k ≡ empty_sum K plain_cmp) ⊎ ((m : Monomial) × IsLead K o (f k) m (coefficient K plain_cmp (f k) m)) → is_gt (term_cmp o u t) ≡ false
      one k kl x (inl e) = absurd (x (ap (λ f. coefficient_at K (row_scale K s f (row_at basis k)) u) e ∙ ap (λ r. coefficient_at K r u) (Rows.zero_scale_row K s p (row_at basis k) (size k kl)) ∙ nothing_at p u))
      one k kl x (inr (m, a)) = upto (term_total o) u (weight leads k m) t ((lead-product k (f k) m _ kl a).greatest u x) (h k m a.apart)
