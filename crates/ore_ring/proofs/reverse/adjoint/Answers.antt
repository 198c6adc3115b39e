use Rattle.std.proofs.Common.{◌≡◌, sym, subst}
use Rattle.std.specs.Prelude.{IfOk}
use Rattle.std.proofs.lemmas.Result.{err_from_is_err_and}
use Rattle.ore_monomial.specs.Gives.{Gives}
use Rattle.ore_monomial.proofs.Stops.{fails_like}
use Rattle.ore_ring.proofs.AdjointSteps.{adjoint_stops, adjoint_made, adjoint_of}
use Rattle.ore_ring.proofs.reverse.adjoint.Goals as goal

pub returns-in_err-push_terms-clause-gives : goal.returns-in_err-push_terms-clause-gives
returns-in_err-push_terms-clause-gives g c =
    let p = err_from_is_err_and c.from_residual.result c.from_residual.ensures.1 in
    rw (p.1, p.2) (fails_like _ _ _ (λ e h.
    adjoint_stops (g.P.MonomialProduct.sig c.args.p.now) c.args.a.now c.terms.result.now c.terms.ensures.value c.requires e c.new-contributions.result.items c.new-contributions.ensures.items h) c.in_err-push_terms.ensures)

pub returns-clause-gives : goal.returns-clause-gives
returns-clause-gives g c =
    subst (Gives (λ f. f.sum) c.sum_of_terms.result)
    (sym (adjoint_made (g.P.MonomialProduct.sig c.args.p.now) c.args.a.now c.terms.result.now c.terms.ensures.value c.requires c.new-contributions.result.items c.push_terms.new.out.items c.new-contributions.ensures.items c.in_ok-push_terms.ensures))
    c.sum_of_terms.ensures.gives

pub returns-clause-of : goal.returns-clause-of
returns-clause-of g c =
    adjoint_of (g.P.MonomialProduct.sig c.args.p.now) c.args.a.now c.terms.result.now c.terms.ensures.value c.requires c.sum_of_terms.result
    (subst (Gives (λ f. f.sum) c.sum_of_terms.result)
    (sym (adjoint_made (g.P.MonomialProduct.sig c.args.p.now) c.args.a.now c.terms.result.now c.terms.ensures.value c.requires c.new-contributions.result.items c.push_terms.new.out.items c.new-contributions.ensures.items c.in_ok-push_terms.ensures))
    c.sum_of_terms.ensures.gives)
    (subst (λ o. IfOk c.sum_of_terms.result (λ f. f.by ≡ o)) c.order.ensures c.sum_of_terms.ensures.by)
