-- The reduction of a row, step by step, over any domain.
--     lead_of_signature        the lead of a row of a signature is of it
--     IsPart                   the steps so far lead from a row and its cofactor row to what is left, below a term
--     part_more                one more step of a reduction keeps this
--     part_reduced             so reduction does
use Rattle.std.proofs.Common.{◌≡◌, ℕ, ◌<◌, List, [], length, sym, ap, ◌∙◌, subst}
use Rattle.std.specs.declared.result.Result.TheVariants.{Ok}
use Rattle.std.specs.declared.cmp.Ordering.TheVariants.{Less}
use Rattle.std.specs.Ordering.{is_gt}
use Rattle.std.specs.List.{All, AllByRecursion}
use Rattle.std.proofs.ByRecursion.{All-get_or, All-push}
use Rattle.ore_algebra.specs.Domain.{Domain}
use Rattle.ore_monomial.specs.Signature.{Signature, MonomialOf, IsLawful}
use Rattle.ore_monomial.specs.Term.{Term, term_cmp}
use Rattle.ore_monomial.specs.declared.order.Order.{Order}
use Rattle.ore_monomial.proofs.Declared.{MonomialOf-quotient}
use Rattle.ore_monomial.proofs.Orders.{upto_less}
use Rattle.ore_monomial.proofs.TermOrder.{term_total}
use Rattle.ore_ring.proofs.Belonging.{of_single}
use Rattle.ore_rows.specs.Rows.{Row, RowOf, row_minus}
use Rattle.ore_rows.specs.RowLead.{coefficient_at, IsRowLead, IsRowBelow}
use Rattle.ore_rows.specs.Arithmetic.{exact}
use Rattle.ore_rows.specs.Reduction.{BasisRow, AreMonic, Step, ReductionState, basis_rows, cofactors_of, leads_of, row_at, step_operator, remainder_after, reduce}
use Rattle.ore_rows.proofs.Differences.{of_row_minus}
use Rattle.ore_rows.proofs.GreatestTerms.{row_lead-Some}
use Rattle.ore_rows.proofs.RowLaws.{of_row_scale, length-row_scale}
use Rattle.ore_rows.proofs.SoundArithmetic.{exact_sound}
use Rattle.ore_division.specs.Laws.{step_multiple}
use Rattle.ore_division.proofs.Reductions.{state_after_step, kept, remainder_after-push}
use Rattle.ore_division.proofs.Steps.{IsReductionStep, next_step-Some, step_inside, step_back, step_below}
use Rattle.ore_pairs.specs.Steps.{AreStepsOf}
use Rattle.ore_pairs.specs.PairList.{IsBelowStep}
use Rattle.ore_pairs.proofs.RowSums.{of_entry}
use Rattle.ore_groebner.proofs.Growing.{inside_map}

pub lead_of_signature : (K : Domain) (s : Signature) (o : Order) (r : Row K) (t : Term) (k : K.Number) → RowOf K s r → IsRowLead K o r t k → MonomialOf s t.monomial
lead_of_signature K s o r t k of a = of_entry K s r t.column of t.monomial (λ e. a.apart (sym a.stands ∙ e))

module _ (K : Domain) (s : Signature) (lawful : IsLawful s) (o : Order) (n : ℕ) (basis : List (BasisRow (Row K))) (monic : AreMonic K o basis) (wide : All (λ b. length b.row ≡ n) basis)
    (long : (i : ℕ) → i < length basis → length (row_at (basis_rows basis) i) ≡ n) (D : Type 0) (of_rows : D → AllByRecursion (RowOf K s) (basis_rows basis)) (of_cofactors : D → AllByRecursion (RowOf K s) (cofactors_of basis)) (z y : Row K) (m : Term) where
  pub record IsPart (w : ReductionState K) : Type 0 where
    pub row : remainder_after K s (basis_rows basis) w.steps z ≡ w.row
    pub cofactor : remainder_after K s (cofactors_of basis) w.steps y ≡ w.cofactor
    pub of_row : D → RowOf K s w.row
    pub of_cofactor : D → RowOf K s w.cofactor
    pub steps_of : D → AreStepsOf K s w.steps
    pub low : AllByRecursion (IsBelowStep K o (leads_of basis) m) w.steps
    pub below : IsRowBelow K o m w.row

  of_multiple : (rows : List (Row K)) → AllByRecursion (RowOf K s) rows → (t : Step K) → t.index < length rows → MonomialOf s t.monomial → RowOf K s (step_multiple K s rows t)
  of_multiple rows of t h k = of_row_scale K s (step_operator K t) (row_at rows t.index) (of_single K s t.monomial t.number k) (All-get_or (RowOf K s) rows t.index [] h of)

  part_more : (w : ReductionState K) (t : Step K) → length w.row ≡ n → IsPart w → IsReductionStep K o basis w.row t → IsPart (state_after_step K s basis t w)
  part_more w t l j a = record {
    row = remainder_after-push K s (basis_rows basis) w.steps t z ∙ ap (λ r. row_minus K r (step_multiple K s (basis_rows basis) t)) j.row;
    cofactor = remainder_after-push K s (cofactors_of basis) w.steps t y ∙ ap (λ r. row_minus K r (step_multiple K s (cofactors_of basis) t)) j.cofactor;
    of_row = λ d. of_row_minus K s w.row _ (j.of_row d) (of_multiple (basis_rows basis) (of_rows d) t (inside_map (λ b. b.row) basis t.index inside) (declared d));
    of_cofactor = λ d. of_row_minus K s w.cofactor _ (j.of_cofactor d) (of_multiple (cofactors_of basis) (of_cofactors d) t (inside_map (λ b. b.cofactor) basis t.index inside) (declared d));
    steps_of = λ d. All-push (λ (t : Step K). MonomialOf s t.monomial) w.steps t (j.steps_of d) (declared d);
    low = All-push (IsBelowStep K o (leads_of basis) m) w.steps t j.low (record { within = inside_map (λ b. b.lead) basis t.index inside; low = ap (λ (u : Term). term_cmp o u m) (step_back K s lawful o basis monic w.row t a) ∙ lead_low });
    below = λ x h. upto_less (term_total o) x a.lead m (ap is_gt (step_below K s lawful o basis monic w.row t a (l ∙ sym (length-row_scale K s lawful (step_operator K t) (row_at (basis_rows basis) t.index) ∙ long t.index inside)) x h)) lead_low;
  }
    where
      inside : t.index < length basis
      inside = step_inside K s lawful o basis monic w.row t a

      lead : IsRowLead K o w.row a.lead (coefficient_at K w.row a.lead)
      lead = row_lead-Some K o w.row a.lead a.leads

      lead_low : term_cmp o a.lead m ≡ Less
      lead_low = j.below a.lead lead.apart

      declared : D → MonomialOf s t.monomial
      declared d = subst (MonomialOf s) (sym a.monomial) (MonomialOf-quotient s a.lead.monomial _ (lead_of_signature K s o w.row a.lead _ (j.of_row d) lead))

  pub part_reduced : (w rest : ReductionState K) → length w.row ≡ n → IsPart w → reduce K o (exact K s) basis w ≡ Ok rest → (length rest.row ≡ n) × IsPart rest
  part_reduced = kept K s lawful o (exact K s) (exact_sound K s) basis n monic wide IsPart (λ w t l j due. part_more w t l j (next_step-Some K o basis w.row t due))
