-- The step that a row calls for, over any domain: it takes the lead away, and all that it brings is below the lead.
--     IsReductionStep                   what the step that a row calls for is
--     next_step-Some           the step that is found is that
--     next_step-None           where none is found no lead divides the lead of the row
--     no_step                  a row without a lead calls for no step
--     step_inside              the step is by a row of the basis
--     step_divides             whose lead is in the column of the lead, and divides it
--     step_back                the monomial of the step times that lead is the lead
--     multiple                 the step times its basis row
--     multiple_lead            the step times its basis row has the lead of the row, with its coefficient
--     step_below               the row less that has only terms below the lead
--     row_height               how many steps there may be at most
--     height-below             it goes down with each step
--     height_room              it is at most the room of the row
use Rattle.std.proofs.Common.{◌≡◌, ◌≢◌, ℕ, suc, ◌+◌, ◌^◌, ◌<◌, ◌≤◌, List, [], length, get_or, refl, sym, ap, ◌∙◌, subst, arith}
use Rattle.std.specs.declared.option.Option.{Option}
use Rattle.std.specs.declared.option.Option.TheVariants.{None, Some}
use Rattle.std.specs.Option.{option_map}
use Rattle.std.proofs.lemmas.List.{length-map, get_or-map}
use Rattle.std.proofs.lemmas.Option.{same_Some, none-some}
use Rattle.ore_algebra.specs.Domain.{Domain}
use Rattle.ore_monomial.specs.Monomial.{degree, quotient, Divides}
use Rattle.ore_monomial.specs.Signature.{Signature, IsLawful}
use Rattle.ore_monomial.specs.Term.{Term, shift}
use Rattle.ore_monomial.specs.declared.order.Order.{Order}
use Rattle.ore_monomial.proofs.Divisors.{product-quotient}
use Rattle.ore_monomial.proofs.TermOrder.{same_term}
use Rattle.ore_leads.specs.FirstDivisor.{first_divisor}
use Rattle.ore_leads.proofs.Dividing.{divides_term_true, first_divisor-Some}
use Rattle.ore_rows.specs.Rows.{Row, row_minus, row_scale}
use Rattle.ore_rows.specs.RowLead.{coefficient_at, IsRowLead, IsRowBelow, row_lead}
use Rattle.ore_rows.specs.Reduction.{BasisRow, AreMonic, Step, basis_rows, leads_of, row_at, basis_lead, origin, step_operator, step_by, next_step, room}
use Rattle.ore_rows.proofs.LeadAppend.{within_row}
use Rattle.ore_rows.proofs.RowLeads.{lead-row_scale_term, below-row_minus}
use Rattle.ore_rows.proofs.GreatestTerms.{row_lead-Some}
use Rattle.ore_division.proofs.Heights

module _ (K : Domain) (o : Order) where
  -- the lead, the first place whose lead divides it, and what takes it away
  pub record IsReductionStep (basis : List (BasisRow (Row K))) (r : Row K) (t : Step K) : Type 0 where
    pub lead : Term
    pub leads : row_lead K o r ≡ Some lead
    pub first : first_divisor (leads_of basis) lead ≡ Some t.index
    pub monomial : t.monomial ≡ quotient lead.monomial (basis_lead basis t.index).monomial
    pub number : t.number ≡ coefficient_at K r lead

  pub next_step-Some : (basis : List (BasisRow (Row K))) (r : Row K) (t : Step K) → next_step K o basis r ≡ Some t → IsReductionStep basis r t
  unfolding next_step
  next_step-Some basis r t e = by (row_lead K o r) refl e
    where
      found : (u : Term) → row_lead K o r ≡ Some u → (d : Option ℕ) → first_divisor (leads_of basis) u ≡ d → option_map (step_by K o basis r u) d ≡ Some t → IsReductionStep basis r t
      found u l None h e = absurd (none-some _ e)
      found u l (Some i) h e = subst (IsReductionStep basis r) (same_Some _ _ e) (record { lead = u; leads = l; first = h; monomial = refl; number = refl })

      by : (u : Option Term) → row_lead K o r ≡ u → ◌≡◌ {A = Option (Step K)} (elim u [ None ↦ None | Some x ↦ option_map (step_by K o basis r x) (first_divisor (leads_of basis) x) ]) (Some t) → IsReductionStep basis r t
      by None l e = absurd (none-some _ e)
      by (Some u) l e = found u l (first_divisor (leads_of basis) u) refl e

  pub next_step-None : (basis : List (BasisRow (Row K))) (r : Row K) → next_step K o basis r ≡ None → (u : Term) → row_lead K o r ≡ Some u → first_divisor (leads_of basis) u ≡ None
  unfolding next_step
  next_step-None basis r e u l = by (first_divisor (leads_of basis) u) (sym (ap (λ (x : Option Term). elim x [ None ↦ None | Some y ↦ option_map (step_by K o basis r y) (first_divisor (leads_of basis) y) ]) l) ∙ e)
    where
      by : (d : Option ℕ) → option_map (step_by K o basis r u) d ≡ None → d ≡ None
      by None h = refl
      by (Some i) h = absurd (none-some _ (sym h))

  -- a row without a lead calls for no step
  pub no_step : (basis : List (BasisRow (Row K))) (r : Row K) → row_lead K o r ≡ None → next_step K o basis r ≡ None
  unfolding next_step
  no_step basis r l = ap (λ (x : Option Term). elim x [ None ↦ None | Some y ↦ option_map (step_by K o basis r y) (first_divisor (leads_of basis) y) ]) l

  -- ---- heights

  unfoldable pub row_height : Row K → ℕ
  row_height r = elim (row_lead K o r) [ None ↦ 0 | Some u ↦ suc (Heights.height o (length r) u) ]

  pub height-below : (r v : Row K) (u : Term) → row_lead K o r ≡ Some u → length v ≡ length r → IsRowBelow K o u v → row_height v < row_height r
  unfolding row_height
  height-below r v u l same below = subst (λ (x : Option Term). row_height v < elim x [ None ↦ 0 | Some y ↦ suc (Heights.height o (length r) y) ]) (sym l) (by (row_lead K o v) refl)
    where
      by : (x : Option Term) → row_lead K o v ≡ x → elim x [ None ↦ 0 | Some y ↦ suc (Heights.height o (length v) y) ] < suc (Heights.height o (length r) u)
      by None e = omega arith
      by (Some q) e =
          let lead = row_lead-Some K o v q e in
          let inside : q.column < length v = within_row K v q lead.apart in
          let h : Heights.height o (length r) q < Heights.height o (length r) u = Heights.height_less o (length r) q u (omega arith) (below q lead.apart) in
          subst (λ n. suc (Heights.height o n q) < suc (Heights.height o (length r) u)) (sym same) (omega arith)

  pub height_room : (r : Row K) → row_height r ≤ room K o r
  unfolding row_height room
  height_room r = by (row_lead K o r)
    where
      by : (x : Option Term) → elim x [ None ↦ 0 | Some u ↦ suc (Heights.height o (length r) u) ] ≤ elim x [ None ↦ 0 | Some u ↦ (degree u.monomial + length r + 1) ^ 14 ]
      by None = omega arith
      by (Some u) = let h = Heights.height_room o (length r) u in omega arith

-- ---- what a step does

module _ (K : Domain) (s : Signature) (lawful : IsLawful s) (o : Order) (basis : List (BasisRow (Row K))) (monic : AreMonic K o basis) where
  blank : BasisRow (Row K)
  blank = record { row = []; cofactor = []; lead = origin }

  monic_at : (i : ℕ) → i < length basis → IsRowLead K o (row_at (basis_rows basis) i) (basis_lead basis i) K.one
  monic_at i h =
      subst (λ r. IsRowLead K o r (basis_lead basis i) K.one) (sym (get_or-map (λ b. b.row) basis i blank [] h))
      (subst (λ u. IsRowLead K o (get_or basis i blank).row u K.one) (sym (get_or-map (λ b. b.lead) basis i blank origin h)) (monic i blank h))

  module _ (r : Row K) (t : Step K) (a : IsReductionStep K o basis r t) where
    pub step_inside : t.index < length basis
    step_inside = let h = (first_divisor-Some (leads_of basis) a.lead t.index origin a.first).0 in let e = length-map basis (λ b. b.lead) in omega arith

    pub step_divides : ((basis_lead basis t.index).column ≡ a.lead.column) × Divides (basis_lead basis t.index).monomial a.lead.monomial
    step_divides = (divides_term_true (basis_lead basis t.index) a.lead).0 (first_divisor-Some (leads_of basis) a.lead t.index origin a.first).1

    pub step_back : shift t.monomial (basis_lead basis t.index) ≡ a.lead
    step_back = ap (λ m. shift m (basis_lead basis t.index)) a.monomial ∙ same_term _ a.lead (product-quotient a.lead.monomial (basis_lead basis t.index).monomial step_divides.1) step_divides.0

    abbrev pub multiple : Row K
    multiple = row_scale K s (step_operator K t) (row_at (basis_rows basis) t.index)

    number_apart : t.number ≢ K.zero
    number_apart e = (row_lead-Some K o r a.lead a.leads).apart (sym a.number ∙ e)

    pub multiple_lead : IsRowLead K o multiple a.lead (coefficient_at K r a.lead)
    multiple_lead =
        subst (IsRowLead K o multiple a.lead) (K.times_one t.number ∙ a.number)
        (subst (λ u. IsRowLead K o multiple u (K.times t.number K.one)) step_back
        (lead-row_scale_term K s lawful o t.monomial t.number (row_at (basis_rows basis) t.index) (basis_lead basis t.index) K.one number_apart (monic_at t.index step_inside)))

    pub step_below : length r ≡ length multiple → IsRowBelow K o a.lead (row_minus K r multiple)
    step_below l = below-row_minus K s o r multiple a.lead (coefficient_at K r a.lead) l (row_lead-Some K o r a.lead a.leads) multiple_lead
