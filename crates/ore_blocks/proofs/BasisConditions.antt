-- The places of a basis and of `from` are right where the basis rows are monic, and their combinations are the rows of a.
--     monic_right                      a row with a lead whose coefficient is 1
--     leads_right, leads_from, leads_iff     the leads of the basis rows
--     IsRight, basis_iff               the sizes, the leads and the products
--     basis_from, right_from           with a lawful list of all pairs, these are the conditions on a basis
use Rattle.std.proofs.Common.{◌≡◌, ◌↔◌, ℕ, zero, suc, pred, ◌<◌, Bool, true, false, cond, ◌&&◌, nat_eq, List, [], ◌∷◌, length, refl, ap, subst, arith}
use Rattle.std.specs.declared.option.Option.{Option}
use Rattle.std.specs.declared.option.Option.TheVariants.{None, Some}
use Rattle.std.specs.declared.result.Result.TheVariants.{Ok}
use Rattle.ore_algebra.specs.Limits.{unlimited}
use Rattle.ore_rational.specs.Field.{rationals}
use Rattle.ore_monomial.specs.Signature.{Signature}
use Rattle.ore_monomial.specs.Term.{Term}
use Rattle.ore_monomial.specs.declared.order.Order.{Order}
use Rattle.ore_rows.specs.Rows.{Row, AreLong, matrix_times}
use Rattle.ore_rows.specs.Reduction.{row_at}
use Rattle.ore_rows.specs.RowLead.{coefficient_at, IsRowLead, row_lead}
use Rattle.ore_rows.proofs.GreatestTerms.{row_lead-Some}
use Rattle.ore_pairs.specs.Blocks.{IsBasis}
use Rattle.ore_pairs.specs.PairList.{DealtPair, AreLawful, pair_count}
use Rattle.ore_pairs.specs.Steps.{AreLeads, lead_at}
use Rattle.ore_blocks.specs.declared.place.Section.{Section}
use Rattle.ore_blocks.specs.declared.place.Place.TheVariants as place
use Rattle.ore_blocks.specs.declared.place.Name.TheVariants.{Basis, From}
use Rattle.ore_blocks.specs.declared.reason.Reason.TheVariants as reason
use Rattle.ore_blocks.specs.Conditions.{is_same, found}
use Rattle.ore_blocks.specs.CheckBlock.{RowMatrix, monic_leads, rows_give, check_basis}
use Rattle.ore_blocks.specs.PlaceConditions.{monic_lead}
use Rattle.ore_blocks.proofs.Passed.{found_then, same_true}
use Rattle.ore_algebra.proofs.ResultLaws.{bound, same_ok}
use Rattle.ore_blocks.proofs.MonicLeads.{monic_lead-one}
use Rattle.ore_blocks.proofs.Equivalences.{goes_on, goes_iff, exists_iff, required_iff, map_iff, both_iff, nat_eq_iff}
use Rattle.ore_blocks.proofs.RowConditions.{rows_give_iff}

module _ (o : Order) where
  monic_right : (r : Row rationals) (t : Term) → monic_lead o r ≡ Some t → IsRowLead rationals o r t rationals.one
  unfolding monic_lead
  monic_right r t h = by (row_lead rationals o r) refl h
    where
      chosen : (u : Term) (b : Bool) → ◌≡◌ {A = Option Term} (cond b (Some u) None) (Some t) → (b ≡ true) × (u ≡ t)
      chosen u true h = (refl, cc)
      chosen u false h = absurd cc

      by : (found : Option Term) → row_lead rationals o r ≡ found
          → ◌≡◌ {A = Option Term} (elim found [ None ↦ None | Some u ↦ cond (is_same rationals.discrete (coefficient_at rationals r u) rationals.one) (Some u) None ]) (Some t) → IsRowLead rationals o r t rationals.one
      by None e h = absurd cc
      by (Some u) e h =
          let c = chosen u (is_same rationals.discrete (coefficient_at rationals r u) rationals.one) h in
          subst (λ v. IsRowLead rationals o r v rationals.one) c.1
          (subst (IsRowLead rationals o r u) (same_true rationals.discrete (coefficient_at rationals r u) rationals.one c.0) (row_lead-Some rationals o r u e))

  -- as many leads as rows, each the lead of its row
  leads_right : (at : Section) (k : ℕ) (rows : List (Row rationals)) (leads : List Term) → monic_leads o at k rows ≡ Ok leads → AreLeads rationals o rows leads
  unfolding monic_leads
  leads_right at k [] leads h = subst (AreLeads rationals o []) (same_ok [] leads h) (record { long = refl; monic = λ i k. absurd (omega arith) })
  leads_right at k (r ∷ rows) leads h =
      let first = found_then (place.Row at Basis k) reason.NotMonic (monic_lead o r) _ leads h in
      let rest = bound (monic_leads o at (suc k) rows) _ leads first.2 in
      subst (AreLeads rationals o (r ∷ rows)) (same_ok (first.0 ∷ rest.0) leads rest.2) (joined first.0 rest.0 (monic_right r first.0 first.1) (leads_right at (suc k) rows rest.0 rest.1))
    where
      joined : (t : Term) (ts : List Term) → IsRowLead rationals o r t rationals.one → AreLeads rationals o rows ts → AreLeads rationals o (r ∷ rows) (t ∷ ts)
      joined t ts a more = record { long = ap suc more.long; monic = each }
        where
          each : (i : ℕ) → i < length (r ∷ rows) → IsRowLead rationals o (row_at (r ∷ rows) i) (lead_at (t ∷ ts) i) rationals.one
          each zero h = a
          each (suc i) h = more.monic i (omega arith)

  leads_from : (at : Section) (k : ℕ) (rows : List (Row rationals)) (leads : List Term) → AreLeads rationals o rows leads → monic_leads o at k rows ≡ Ok leads
  unfolding monic_leads
  leads_from at k [] [] h = refl
  leads_from at k [] (t ∷ ts) h = let e = h.long in absurd (omega arith)
  leads_from at k (r ∷ rows) [] h = let e = h.long in absurd (omega arith)
  leads_from at k (r ∷ rows) (t ∷ ts) h =
      goes_on (found (place.Row at Basis k) reason.NotMonic (monic_lead o r)) _ t _ (ap (found (place.Row at Basis k) reason.NotMonic) (monic_lead-one o r t rationals.one (h.monic 0 (omega arith)) refl))
      (goes_on (monic_leads o at (suc k) rows) _ ts _ (leads_from at (suc k) rows ts (record { long = ap pred h.long; monic = λ i k. h.monic (suc i) (omega arith) })) refl)

  leads_iff : (at : Section) (k : ℕ) (rows : List (Row rationals)) (leads : List Term) → (monic_leads o at k rows ≡ Ok leads) ↔ AreLeads rationals o rows leads
  leads_iff at k rows leads = (leads_right at k rows leads, leads_from at k rows leads)

module _ (s : Signature) (a basis from : RowMatrix) where
  pub record IsRight (leads : List Term) : Type 0 where
    pub columns : basis.cols ≡ a.cols
    pub monic : AreLeads rationals s.order basis.rows leads
    pub from_rows : length from.rows ≡ length a.rows
    pub from_columns : from.cols ≡ length basis.rows
    pub from_is : matrix_times rationals s a.cols from.rows basis.rows ≡ a.rows

  -- what is found behind the leads
  abbrev IsBehind : List Term → List Term → Type 0
  IsBehind leads found = ((length from.rows ≡ length a.rows) × (from.cols ≡ length basis.rows)) × ((matrix_times rationals s a.cols from.rows basis.rows ≡ a.rows) × (found ≡ leads))

  pub basis_iff : (at : Section) (leads : List Term) → AreLong rationals basis.cols basis.rows → (check_basis unlimited s a at basis from ≡ Ok leads) ↔ IsRight leads
  unfolding check_basis
  basis_iff at leads long = map_iff
      (required_iff (place.Header at Basis) reason.Shape (nat_eq basis.cols a.cols) _ leads (nat_eq_iff basis.cols a.cols) (λ columns.
      exists_iff (AreLeads rationals s.order basis.rows) (IsBehind leads) (monic_leads s.order at 0 basis.rows) _ leads (leads_iff s.order at 0 basis.rows) (λ found monic.
      required_iff (place.Header at From) reason.Shape (nat_eq (length from.rows) (length a.rows) && nat_eq from.cols (length basis.rows)) _ leads
      (both_iff (nat_eq (length from.rows) (length a.rows)) (nat_eq from.cols (length basis.rows)) (nat_eq_iff (length from.rows) (length a.rows)) (nat_eq_iff from.cols (length basis.rows))) (λ sizes.
      goes_iff (rows_give unlimited s reason.FromRow a.cols basis.rows at From 0 from.rows a.rows) _ leads
      (rows_give_iff s reason.FromRow a.cols basis.rows (subst (λ n. AreLong rationals n basis.rows) columns long) at From 0 from.rows a.rows sizes.0) (λ products.
      (same_ok found leads, λ e. ap Ok e)))))) (
        λ h. record { columns = h.0; monic = subst (AreLeads rationals s.order basis.rows) h.1.2.1.1 h.1.1; from_rows = h.1.2.0.0; from_columns = h.1.2.0.1; from_is = h.1.2.1.0 },
        λ h. (h.columns, (leads, h.monic, ((h.from_rows, h.from_columns), (h.from_is, refl)))),
      )

  pub right_from : (leads : List Term) (entries : List (DealtPair rationals)) → basis.cols ≡ a.cols → from.cols ≡ length basis.rows → IsBasis rationals s s.order a.cols a.rows basis.rows from.rows entries leads → IsRight leads
  right_from leads entries columns from_columns h = record { columns = columns; monic = h.monic; from_rows = h.from_shape.0; from_columns = from_columns; from_is = h.from_is }

  pub basis_from : (leads : List Term) (entries : List (DealtPair rationals)) → AreLong rationals basis.cols basis.rows → AreLong rationals from.cols from.rows → IsRight leads
      → AreLawful rationals s s.order a.cols basis.rows leads [] entries → length entries ≡ pair_count leads → IsBasis rationals s s.order a.cols a.rows basis.rows from.rows entries leads
  basis_from leads entries long wide h lawful counted = record {
    long = subst (λ n. AreLong rationals n basis.rows) h.columns long;
    monic = h.monic;
    from_shape = (h.from_rows, subst (λ n. AreLong rationals n from.rows) h.from_columns wide);
    from_is = h.from_is;
    lawful = lawful;
    counted = counted;
  }
