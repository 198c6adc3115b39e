-- Steps of the code, beside their definition.
--     divisor_divides          the lead that is found divides
--     step_found, no_lead, no_divisor    the step that the code finds
--     stops_first, stops_second, step_taken    what the two parts of a step give
use Rattle.std.proofs.Common.{◌≡◌, ℕ, List, [], ◌∷◌, ◌++◌, get_or, sym, ap, ◌∙◌, subst}
use Rattle.std.specs.List.{slice_get}
use Rattle.std.specs.Option.{option_map}
use Rattle.std.specs.declared.option.Option.{Option}
use Rattle.std.specs.declared.option.Option.TheVariants.{None, Some}
use Rattle.std.specs.declared.result.Result.TheVariants.{Ok}
use Rattle.std.proofs.lemmas.Option.{get_or_from_slice_get}
use Rattle.ore_algebra.specs.Limits.{program}
use Rattle.ore_rational.specs.Fraction.{Fraction}
use Rattle.ore_rational.specs.Field.{rationals}
use Rattle.ore_monomial.specs.Gives.{Fails}
use Rattle.ore_monomial.specs.Monomial.{quotient, Divides}
use Rattle.ore_monomial.specs.Signature.{Signature}
use Rattle.ore_monomial.specs.Term.{Term}
use Rattle.ore_monomial.specs.LetterRule.{Operator}
use Rattle.ore_monomial.specs.declared.order.Order.{Order}
use Rattle.ore_monomial.specs.declared.stop.RingStop.{RingStop}
use Rattle.ore_monomial.proofs.Stops.{fails_like}
use Rattle.ore_ring.specs.Ordered.{Ordered}
use Rattle.ore_leads.specs.FirstDivisor.{first_divisor}
use Rattle.ore_leads.proofs.Dividing.{divides_term_true, first_divisor-Some}
use Rattle.ore_rows.specs.Arithmetic.{within}
use Rattle.ore_rows.specs.Reduction.{Step, ReductionState, basis_rows, cofactors_of, leads_of, row_at, basis_lead, origin, step_operator, step_by, next_step, less_multiple, subtract}
use Rattle.ore_rows.specs.RowLead.{IsRowLead}
use Rattle.ore_rows.specs.Stored.{IsZeroRow, sums_of}
use Rattle.ore_rows.specs.StoredBasis.{StoredBasis, monics}
use Rattle.ore_rows.proofs.BasisParts.{leads_monics, row_value, cofactor_value}
use Rattle.ore_rows.proofs.GreatestTerms.{row_lead_from}
use Rattle.ore_rows.proofs.StoredBases.{zeros_lead}
use Rattle.ore_division.proofs.Steps.{no_step}
use Rattle.ore_division.proofs.Reductions.{subtract_stops_first, subtract_stops_second, subtract_gives}

-- ---- the step that is found

-- the lead that is found divides
pub divisor_divides : (leads : List Term) (u l : Term) (i : ℕ) → first_divisor leads u ≡ Some i → slice_get leads i ≡ Some l → Divides l.monomial u.monomial
divisor_divides leads u l i e f = subst (λ (x : Term). Divides x.monomial u.monomial) (get_or_from_slice_get leads i l l f) ((divides_term_true (get_or leads i l) u).0 (first_divisor-Some leads u i l e).1).1

module _ (o : Order) (b : StoredBasis) (r : List Ordered) where
  pub no_lead : IsZeroRow r → next_step rationals o (monics b) (sums_of r) ≡ None
  no_lead z = no_step rationals o (monics b) (sums_of r) (zeros_lead o r z)

  module _ (u : Term) (k : Fraction) (a : IsRowLead rationals o (sums_of r) u k) where
    found : next_step rationals o (monics b) (sums_of r) ≡ option_map (step_by rationals o (monics b) (sums_of r) u) (first_divisor (leads_of b.items) u)
    unfolding next_step
    found =
        ap (λ (x : Option Term). elim x [ None ↦ None | Some y ↦ option_map (step_by rationals o (monics b) (sums_of r) y) (first_divisor (leads_of (monics b)) y) ]) (row_lead_from rationals o (sums_of r) u k a)
        ∙ ap (λ ls. option_map (step_by rationals o (monics b) (sums_of r) u) (first_divisor ls u)) (leads_monics b.items)

    pub no_divisor : first_divisor (leads_of b.items) u ≡ None → next_step rationals o (monics b) (sums_of r) ≡ None
    no_divisor e = found ∙ ap (option_map (step_by rationals o (monics b) (sums_of r) u)) e

    pub step_found : (i : ℕ) (l : Term) → first_divisor (leads_of b.items) u ≡ Some i → slice_get (leads_of b.items) i ≡ Some l → next_step rationals o (monics b) (sums_of r) ≡ Some (record { index = i; monomial = quotient u.monomial l.monomial; number = k })
    step_found i l e f =
        found
        ∙ ap (option_map (step_by rationals o (monics b) (sums_of r) u)) e
        ∙ (λ j. Some (record { index = i; monomial = quotient u.monomial (lead j).monomial; number = a.stands j }))
      where
        lead : basis_lead (monics b) i ≡ l
        lead = ap (λ ls. get_or ls i origin) (leads_monics b.items) ∙ get_or_from_slice_get (leads_of b.items) i l origin f

-- ---- the step that is taken

module _ (s : Signature) (b : StoredBasis) (t : Step rationals) (w : ReductionState rationals) (term : Operator rationals) (k : ℕ) (same : term ≡ step_operator rationals t) (place : k ≡ t.index) (row : List Ordered) (at_row : slice_get (basis_rows b.items) k ≡ Some row) where
  as_row : less_multiple rationals (within program s) term (sums_of row) w.row ≡ less_multiple rationals (within program s) (step_operator rationals t) (row_at (basis_rows (monics b)) t.index) w.row
  as_row = λ i. less_multiple rationals (within program s) (same i) ((sym (row_value b k row at_row) ∙ ap (row_at (basis_rows (monics b))) place) i) w.row

  pub stops_first : (e : RingStop) → Fails e (less_multiple rationals (within program s) term (sums_of row) w.row) → Fails e (subtract rationals (within program s) (monics b) t w)
  stops_first e = fails_like e _ _ (λ c h. subtract_stops_first rationals (within program s) (monics b) t w c (sym as_row ∙ h))

  module _ (rest : List Ordered) (first : less_multiple rationals (within program s) term (sums_of row) w.row ≡ Ok (sums_of rest)) (cofactor : List Ordered) (at_cofactor : slice_get (cofactors_of b.items) k ≡ Some cofactor) where
    as_cofactor : less_multiple rationals (within program s) term (sums_of cofactor) w.cofactor ≡ less_multiple rationals (within program s) (step_operator rationals t) (row_at (cofactors_of (monics b)) t.index) w.cofactor
    as_cofactor = λ i. less_multiple rationals (within program s) (same i) ((sym (cofactor_value b k cofactor at_cofactor) ∙ ap (row_at (cofactors_of (monics b))) place) i) w.cofactor

    pub stops_second : (e : RingStop) → Fails e (less_multiple rationals (within program s) term (sums_of cofactor) w.cofactor) → Fails e (subtract rationals (within program s) (monics b) t w)
    stops_second e = fails_like e _ _ (λ c h. subtract_stops_second rationals (within program s) (monics b) t w (sums_of rest) c (sym as_row ∙ first) (sym as_cofactor ∙ h))

    pub step_taken : (q : List Ordered) (steps : List (Step rationals)) → less_multiple rationals (within program s) term (sums_of cofactor) w.cofactor ≡ Ok (sums_of q) → steps ≡ w.steps ++ t ∷ []
        → subtract rationals (within program s) (monics b) t w ≡ Ok (record { row = sums_of rest; cofactor = sums_of q; steps = steps })
    step_taken q steps second more =
        subtract_gives rationals (within program s) (monics b) t w (sums_of rest) (sums_of q) (sym as_row ∙ first) (sym as_cofactor ∙ second)
        ∙ (λ i. Ok (record { row = sums_of rest; cofactor = sums_of q; steps = sym more i }))
