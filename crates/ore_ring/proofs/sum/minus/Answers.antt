use Rattle.std.proofs.Common.{refl, sym, ap, ◌∙◌, subst}
use Rattle.std.specs.declared.result.Result.TheVariants.{Ok}
use Rattle.std.proofs.lemmas.Result.{err_from_is_err_and}
use Rattle.ore_monomial.proofs.Stops.{fails_like}
use Rattle.ore_ring.specs.Merge.{opposite_terms}
use Rattle.ore_ring.specs.Terms.{IsFalling}
use Rattle.ore_ring.proofs.OpSums.{minus_ok, minus_stops, minus_belongs}
use Rattle.ore_ring.proofs.sum.minus.Goals as goal

pub returns-in_err-terms-clause-gives : goal.returns-in_err-terms-clause-gives
returns-in_err-terms-clause-gives c =
    let p = err_from_is_err_and c.from_residual.result c.from_residual.ensures.1 in
    rw (p.1, p.2) (fails_like _ _ _ (λ e h.
    minus_stops c.args.a.now c.args.b.now c.order.result c.order.ensures c.requires c.terms.result.now c.terms-2.result.now c.terms.ensures.value c.terms-2.ensures.value c.terms.ensures.falls c.terms-2.ensures.falls (opposite_terms c.terms-2.result.now) refl e h) c.in_err-terms.ensures)

pub from_terms-requires : goal.from_terms-requires
from_terms-requires c =
    subst (λ o. IsFalling o c.in_ok-terms.terms.items) (sym c.order-2.ensures)
    (minus_ok c.args.a.now c.args.b.now c.order.result c.order.ensures c.requires c.terms.result.now c.terms-2.result.now c.terms.ensures.value c.terms-2.ensures.value c.terms.ensures.falls c.terms-2.ensures.falls (opposite_terms c.terms-2.result.now) refl c.in_ok-terms.terms.items c.in_ok-terms.ensures).0

pub returns-clause-gives : goal.returns-clause-gives
returns-clause-gives c =
    (minus_ok c.args.a.now c.args.b.now c.order.result c.order.ensures c.requires c.terms.result.now c.terms-2.result.now c.terms.ensures.value c.terms-2.ensures.value c.terms.ensures.falls c.terms-2.ensures.falls (opposite_terms c.terms-2.result.now) refl c.in_ok-terms.terms.items c.in_ok-terms.ensures).1
    ∙ ap Ok (sym (ap (λ v. v.sum) c.from_terms.ensures))

pub returns-clause-of : goal.returns-clause-of
returns-clause-of c = λ s a b. minus_belongs s c.args.a.now c.args.b.now c.from_terms.result a b (ap (λ v. v.by) c.from_terms.ensures ∙ c.order-2.ensures)
    ((minus_ok c.args.a.now c.args.b.now c.order.result c.order.ensures c.requires c.terms.result.now c.terms-2.result.now c.terms.ensures.value c.terms-2.ensures.value c.terms.ensures.falls c.terms-2.ensures.falls (opposite_terms c.terms-2.result.now) refl c.in_ok-terms.terms.items c.in_ok-terms.ensures).1
    ∙ ap Ok (sym (ap (λ v. v.sum) c.from_terms.ensures)))
