use Rattle.std.proofs.Common.{◌≡◌, refl, sym, ap, ◌∙◌, subst}
use Rattle.std.specs.declared.result.Result.TheVariants.{Ok}
use Rattle.std.specs.Prelude.{IfOk}
use Rattle.std.proofs.lemmas.Result.{err_from_is_err_and}
use Rattle.ore_monomial.specs.Gives.{Gives}
use Rattle.ore_monomial.proofs.Stops.{fails_like}
use Rattle.ore_ring.proofs.Degrees.{are_small}
use Rattle.ore_ring.proofs.OneTimes.{one_times}
use Rattle.ore_ring.proofs.ProductSteps.{times_degree, times_stops, times_made, times_of}
use Rattle.ore_ring.proofs.multiply.times.Goals as goal

pub returns-then-not-degrees_pass-clause-gives : goal.returns-then-not-degrees_pass-clause-gives
returns-then-not-degrees_pass-clause-gives g c =
    times_degree (g.P.MonomialProduct.sig c.args.p.now) c.args.a.now c.args.b.now c.terms-ts.result.now c.terms-us.result.now c.terms-ts.ensures.value c.terms-us.ensures.value c.requires.a_of c.requires.b_of c.if-not-degrees_pass.ensures

pub push_rows-requires : goal.push_rows-requires
push_rows-requires g c = are_small c.terms-ts.result.now c.terms-us.result.now (sym c.if-not-degrees_pass.ensures)

pub returns-in_err-push_rows-clause-gives : goal.returns-in_err-push_rows-clause-gives
returns-in_err-push_rows-clause-gives g c =
    let p = err_from_is_err_and c.from_residual-in_err-push_rows.result c.from_residual-in_err-push_rows.ensures.1 in
    rw (p.1, p.2) (fails_like _ _ _ (λ e h.
    times_stops (g.P.MonomialProduct.sig c.args.p.now) c.args.a.now c.args.b.now c.terms-ts.result.now c.terms-us.result.now c.terms-ts.ensures.value c.terms-us.ensures.value c.requires.a_of c.requires.b_of c.if-not-degrees_pass.ensures e c.in_ok-contributions.contributions.items c.in_ok-contributions.ensures.items h) c.in_err-push_rows.ensures)

pub returns-then-is_one-clause-gives : goal.returns-then-is_one-clause-gives
returns-then-is_one-clause-gives g c =
    one_times (g.P.MonomialProduct.sig c.args.p.now) c.args.a.now c.args.b.now c.terms-ts.result.now c.terms-us.result.now c.terms-ts.ensures.value c.terms-us.ensures.value c.requires.a_of c.requires.b_of c.if-not-degrees_pass.ensures (c.if-is_one.ensures refl) c.terms-us.ensures.falls c.are_in_range.ensures
    ∙ ap (λ v. Ok v.sum) (sym c.in_ok-copy.ensures)

pub returns-clause-gives : goal.returns-clause-gives
returns-clause-gives g c =
    subst (Gives (λ f. f.sum) c.sum_of_terms.result)
    (sym (times_made (g.P.MonomialProduct.sig c.args.p.now) c.args.a.now c.args.b.now c.terms-ts.result.now c.terms-us.result.now c.terms-ts.ensures.value c.terms-us.ensures.value c.requires.a_of c.requires.b_of c.if-not-degrees_pass.ensures c.in_ok-contributions.contributions.items c.push_rows.new.out.items c.in_ok-contributions.ensures.items c.in_ok-push_rows.ensures))
    c.sum_of_terms.ensures.gives

pub returns-clause-of : goal.returns-clause-of
returns-clause-of g c =
    times_of (g.P.MonomialProduct.sig c.args.p.now) c.args.a.now c.args.b.now c.terms-ts.result.now c.terms-us.result.now c.terms-ts.ensures.value c.terms-us.ensures.value c.requires.a_of c.requires.b_of c.sum_of_terms.result
    (subst (Gives (λ f. f.sum) c.sum_of_terms.result)
    (sym (times_made (g.P.MonomialProduct.sig c.args.p.now) c.args.a.now c.args.b.now c.terms-ts.result.now c.terms-us.result.now c.terms-ts.ensures.value c.terms-us.ensures.value c.requires.a_of c.requires.b_of c.if-not-degrees_pass.ensures c.in_ok-contributions.contributions.items c.push_rows.new.out.items c.in_ok-contributions.ensures.items c.in_ok-push_rows.ensures))
    c.sum_of_terms.ensures.gives)
    (subst (λ o. IfOk c.sum_of_terms.result (λ f. f.by ≡ o)) c.order-order.ensures c.sum_of_terms.ensures.by)
