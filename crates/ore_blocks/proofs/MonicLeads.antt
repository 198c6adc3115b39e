-- Leads of rows whose lead coefficient is 1, as they are found in stored rows.
--     same_yes, same_no              a test whether two values are the same
--     lead_zeros                     a row without a lead is one of zeros
--     none_is                        a test by is_some
--     zero_told                      so a test for zeros is one for leads
--     none_told                      so a test whether something is none
--     lead_where_one, monic_cases    the monic lead by what the lead is
--     monic_lead-none                a row of zeros has no monic lead
--     monic_lead-one                 a lead with the coefficient 1
--     monic_lead-other               a lead with another coefficient
--     reduced_none, reduced_some     a row without a lead, and one with a lead
--     fronted_next, leads_next, leads_end      the leads behind some, row by row
use Rattle.std.proofs.Common.{◌≡◌, ◌≢◌, ◌↔◌, ℕ, suc, ◌+◌, ◌<◌, Bool, true, false, cond, List, [], ◌∷◌, ◌++◌, length, get_or, refl, sym, ap, ◌∙◌, subst, true≢false, append-nil, ◌≤◌, arith}
use Rattle.std.specs.Prelude.{IsTrue, not}
use Rattle.std.specs.Option.{is_some}
use Rattle.std.specs.declared.option.Option.{Option}
use Rattle.std.specs.declared.option.Option.TheVariants.{None, Some}
use Rattle.std.specs.declared.result.Result.TheVariants.{Ok, Err}
use Rattle.std.proofs.lemmas.List.{at_drop_all, drop-map, get_or-map, get_or-replicate, length-map}
use Rattle.ore_algebra.proofs.ResultLaws.{front_more}
use Rattle.ore_algebra.specs.Free.{empty_sum}
use Rattle.ore_algebra.specs.Limits.{Limits}
use Rattle.ore_rational.specs.Fraction.{Fraction}
use Rattle.ore_rational.specs.Field.{rationals}
use Rattle.ore_monomial.specs.Monomial.{plain_cmp}
use Rattle.ore_monomial.specs.Signature.{Signature}
use Rattle.ore_monomial.specs.Term.{Term}
use Rattle.ore_monomial.specs.declared.order.Order.{Order}
use Rattle.ore_ring.specs.Ordered.{Ordered}
use Rattle.ore_leads.specs.FirstDivisor.{first_divisor}
use Rattle.ore_rows.specs.RowLead.{coefficient_at, row_lead, IsRowLead}
use Rattle.ore_rows.specs.Rows.{Row, zero_row}
use Rattle.ore_rows.specs.Stored.{IsZeroRow, OperatorMatrix, rows_of, sums_of}
use Rattle.ore_rows.proofs.GreatestTerms.{row_lead_from, zero_from}
use Rattle.ore_rows.proofs.StoredBases.{zeros_lead}
use Rattle.ore_blocks.specs.CheckBlock.{monic_leads}
use Rattle.ore_blocks.specs.PlaceConditions.{is_reduced, monic_lead}
use Rattle.ore_blocks.specs.Conditions.{Checked, found, is_none, is_same}
use Rattle.ore_algebra.specs.Results.{◌>>=◌}
use Rattle.ore_blocks.specs.declared.place.Section.{Section}
use Rattle.ore_blocks.specs.declared.place.Place.TheVariants as place
use Rattle.ore_blocks.specs.declared.place.Name.TheVariants.{Basis}
use Rattle.ore_blocks.specs.declared.reason.Reason.TheVariants as reason
use Rattle.ore_blocks.proofs.ReadItems.{drop_mapped}
use Rattle.ore_blocks.proofs.Compared.{same_told, told_false}
use Rattle.std.specs.List.{slice_get}
use Rattle.std.proofs.Common.{drop}

pub same_yes : {A : Type 0} (d : Discrete A) (x y : A) → x ≡ y → is_same d x y ≡ true
same_yes d x y e = sym (same_told d x y true (λ h. e, λ h. refl))

pub same_no : {A : Type 0} (d : Discrete A) (x y : A) → x ≢ y → is_same d x y ≡ false
same_no d x y n = sym (same_told d x y false (λ h. absurd (true≢false (sym h)), λ e. absurd (n e)))

pub lead_zeros : (o : Order) (r : List Ordered) → row_lead rationals o (sums_of r) ≡ None → IsZeroRow r
unfolding zero_row
lead_zeros o r e k d h =
    let wide : k < length (sums_of r) = subst (λ n. k < n) (sym (length-map r (λ (f : Ordered). f.sum))) h in
    sym (get_or-map (λ (f : Ordered). f.sum) r k d (empty_sum rationals plain_cmp) h)
    ∙ ap (λ q. get_or q k (empty_sum rationals plain_cmp)) (zero_from rationals o (sums_of r) e)
    ∙ get_or-replicate (length (sums_of r)) k (empty_sum rationals plain_cmp) (empty_sum rationals plain_cmp) wide

pub none_is : {A : Type 0} (v : Option A) (b : Bool) → is_some v ≡ not b → b ≡ is_none v
none_is None true e = refl
none_is None false e = absurd (true≢false (sym e))
none_is (Some x) true e = absurd (true≢false e)
none_is (Some x) false e = refl

none_told : {A : Type 0} (v : Option A) (b : Bool) → IsTrue b ↔ v ≡ None → b ≡ is_none v
none_told None b h = h.1 refl
none_told (Some x) b h = told_false b (λ t. true≢false (sym (ap is_none (h.0 t))))

pub zero_told : (o : Order) (r : List Ordered) (b : Bool) → IsTrue b ↔ IsZeroRow r → b ≡ is_none (row_lead rationals o (sums_of r))
zero_told o r b h = none_told (row_lead rationals o (sums_of r)) b (λ t. zeros_lead o r (h.0 t), λ e. h.1 (lead_zeros o r e))

abbrev lead_where_one : (r : Row rationals) → Option Term → Option Term
lead_where_one r None = None
lead_where_one r (Some t) = cond (is_same rationals.discrete (coefficient_at rationals r t) rationals.one) (Some t) None

monic_cases : (o : Order) (r : Row rationals) (v : Option Term) → row_lead rationals o r ≡ v → monic_lead o r ≡ lead_where_one r v
unfolding monic_lead
monic_cases o r None e = ap (λ x. elim x [ None ↦ None | Some t ↦ cond (is_same rationals.discrete (coefficient_at rationals r t) rationals.one) (Some t) None ]) e
monic_cases o r (Some u) e = ap (λ x. elim x [ None ↦ None | Some t ↦ cond (is_same rationals.discrete (coefficient_at rationals r t) rationals.one) (Some t) None ]) e

pub monic_lead-none : (o : Order) (r : List Ordered) → IsZeroRow r → monic_lead o (sums_of r) ≡ None
monic_lead-none o r z = monic_cases o (sums_of r) None (zeros_lead o r z)

module _ (o : Order) (r : Row rationals) (t : Term) (k : Fraction) (h : IsRowLead rationals o r t k) where
  pub monic_lead-one : k ≡ rationals.one → monic_lead o r ≡ Some t
  monic_lead-one e = monic_cases o r (Some t) (row_lead_from rationals o r t k h) ∙ ap (λ b. cond b (Some t) None) (same_yes rationals.discrete (coefficient_at rationals r t) rationals.one (h.stands ∙ e))

  pub monic_lead-other : k ≢ rationals.one → monic_lead o r ≡ None
  monic_lead-other n = monic_cases o r (Some t) (row_lead_from rationals o r t k h) ∙ ap (λ b. cond b (Some t) None) (same_no rationals.discrete (coefficient_at rationals r t) rationals.one (λ e. n (sym h.stands ∙ e)))

module _ (l : Limits) (s : Signature) (leads : List Term) where
  pub reduced_none : (r : List Ordered) → IsZeroRow r → is_reduced l s leads (sums_of r) ≡ false
  unfolding is_reduced
  reduced_none r z = ap (λ x. elim x [ None ↦ false | Some t ↦ is_none (first_divisor leads t) ]) (zeros_lead s.order r z)

  pub reduced_some : (r : Row rationals) (t : Term) (k : Fraction) → IsRowLead rationals s.order r t k → is_reduced l s leads r ≡ is_none (first_divisor leads t)
  unfolding is_reduced
  reduced_some r t k h = ap (λ x. elim x [ None ↦ false | Some t ↦ is_none (first_divisor leads t) ]) (row_lead_from rationals s.order r t k h)

fronted_next : (front : List Term) (x : Checked Term) (y : Checked (List Term))
    → ((x >>= λ t. y >>= λ ts. Ok (t ∷ ts)) >>= λ ts. Ok (front ++ ts)) ≡ (x >>= λ t. y >>= λ ts. Ok ((front ++ t ∷ []) ++ ts))
fronted_next front (Ok t) y = front_more front t y
fronted_next front (Err e) y = refl

pub leads_next : (o : Order) (at : Section) (front : List Term) (m : OperatorMatrix) (k : ℕ) (r : List Ordered) → slice_get m.rows k ≡ Some r
    → (monic_leads o at k (drop k (rows_of m)) >>= λ ts. Ok (front ++ ts))
    ≡ (found (place.Row at Basis k) reason.NotMonic (monic_lead o (sums_of r)) >>= λ t. monic_leads o at (k + 1) (drop (k + 1) (rows_of m)) >>= λ ts. Ok ((front ++ t ∷ []) ++ ts))
unfolding monic_leads
leads_next o at front m k r here =
    ap (λ rs. monic_leads o at k rs >>= λ ts. Ok (front ++ ts)) (drop_mapped sums_of m.rows k r here)
    ∙ fronted_next front (found (place.Row at Basis k) reason.NotMonic (monic_lead o (sums_of r))) (monic_leads o at (suc k) (drop (k + 1) (rows_of m)))
    ∙ ap (λ n. found (place.Row at Basis k) reason.NotMonic (monic_lead o (sums_of r)) >>= λ t. monic_leads o at n (drop (k + 1) (rows_of m)) >>= λ ts. Ok ((front ++ t ∷ []) ++ ts)) (let e : suc k ≡ k + 1 = omega arith in e)

pub leads_end : (o : Order) (at : Section) (front : List Term) (m : OperatorMatrix) (k : ℕ) → length m.rows ≤ k → (monic_leads o at k (drop k (rows_of m)) >>= λ ts. Ok (front ++ ts)) ≡ Ok front
unfolding monic_leads
leads_end o at front m k h =
    ap (λ rs. monic_leads o at k rs >>= λ ts. Ok (front ++ ts)) (drop-map sums_of k m.rows ∙ at_drop_all (λ rs. rows_of (record { cols = 0; rows = rs })) m.rows k h)
    ∙ ap Ok (append-nil front)
