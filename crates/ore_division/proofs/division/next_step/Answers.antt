use Rattle.std.proofs.Common.{sym, ap, ◌∙◌, subst}
use Rattle.std.specs.List.{slice_get}
use Rattle.std.specs.declared.option.Option.TheVariants.{Some}
use Rattle.ore_monomial.specs.Signature.{MonomialOf}
use Rattle.ore_monomial.specs.Term.{Term}
use Rattle.ore_monomial.proofs.Declared.{MonomialOf-quotient}
use Rattle.ore_leads.specs.FirstDivisor.{first_divisor}
use Rattle.ore_rows.specs.Reduction.{leads_of}
use Rattle.ore_rows.proofs.BasisParts.{lead_of_signature}
use Rattle.ore_division.proofs.StoredSteps.{divisor_divides, no_lead, no_divisor, step_found}
use Rattle.ore_division.proofs.division.next_step.Goals as goal

pub returns-in_err-found-clause-value : goal.returns-in_err-found-clause-value
returns-in_err-found-clause-value c = c.from_residual.ensures ∙ sym (no_lead c.args.sig.now.order c.args.basis.now c.args.row.now c.in_err-found.ensures)

pub returns-in_err-index-clause-value : goal.returns-in_err-index-clause-value
returns-in_err-index-clause-value c =
    let u : Term = record { monomial = c.in_ok-found.found.1; column = c.in_ok-found.found.0 } in
    let none = ap (λ ls. first_divisor ls u) (sym c.leads.ensures) ∙ sym c.first_divisor.ensures ∙ c.in_err-index.was in
    c.from_residual-in_err-index.ensures ∙ sym (no_divisor c.args.sig.now.order c.args.basis.now c.args.row.now u c.in_ok-found.found.2 c.in_ok-found.ensures none)

pub minus-requires : goal.minus-requires
minus-requires c =
    let u : Term = record { monomial = c.in_ok-found.found.1; column = c.in_ok-found.found.0 } in
    let first = ap (λ ls. first_divisor ls u) (sym c.leads.ensures) ∙ sym c.first_divisor.ensures ∙ c.in_ok-index.was in
    divisor_divides (leads_of c.args.basis.now.items) u _ c.in_ok-index.index first (ap (λ ls. slice_get ls c.in_ok-index.index) (sym c.leads-2.ensures) ∙ c.get-divisor.ensures)

pub returns-clause-value : goal.returns-clause-value
returns-clause-value c =
    let u : Term = record { monomial = c.in_ok-found.found.1; column = c.in_ok-found.found.0 } in
    let first = ap (λ ls. first_divisor ls u) (sym c.leads.ensures) ∙ sym c.first_divisor.ensures ∙ c.in_ok-index.was in
    let at = ap (λ ls. slice_get ls c.in_ok-index.index) (sym c.leads-2.ensures) ∙ c.get-divisor.ensures in
    ap (λ m. Some (record { index = c.in_ok-index.index; monomial = m; number = c.in_ok-found.found.2 })) c.minus.ensures
    ∙ sym (step_found c.args.sig.now.order c.args.basis.now c.args.row.now u c.in_ok-found.found.2 c.in_ok-found.ensures c.in_ok-index.index _ first at)

pub returns-clause-of : goal.returns-clause-of
returns-clause-of c = subst (MonomialOf c.args.sig.now) (sym c.minus.ensures) (MonomialOf-quotient c.args.sig.now _ _ (lead_of_signature c.args.sig.now c.args.row.now _ _ c.requires c.in_ok-found.ensures))
