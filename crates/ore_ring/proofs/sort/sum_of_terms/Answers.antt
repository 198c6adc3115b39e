use Rattle.std.proofs.Common.{refl, sym, ap, ◌∙◌, subst}
use Rattle.std.proofs.lemmas.Result.{err_from_is_err_and}
use Rattle.ore_algebra.specs.Limits.{program}
use Rattle.ore_monomial.proofs.Stops.{fails_like}
use Rattle.std.specs.declared.result.Result.TheVariants.{Ok}
use Rattle.ore_ring.specs.Contributions.{add_terms_within, AreInRange}
use Rattle.ore_ring.specs.Terms.{IsFalling}
use Rattle.ore_ring.proofs.FallingSum.{falling_sum}
use Rattle.ore_ring.proofs.TermSums.{sorted_sum}
use Rattle.ore_ring.proofs.sort.sum_of_terms.Goals as goal

pub returns-in_err-add_terms-clause-gives : goal.returns-in_err-add_terms-clause-gives
returns-in_err-add_terms-clause-gives c =
    let p = err_from_is_err_and c.from_residual-in_err-add_terms.result c.from_residual-in_err-add_terms.ensures.1 in
    rw (p.1, p.2) (fails_like _ _ _ (λ e h.
    sorted_sum c.args.order c.args.terms.items c.sort.new.terms.items c.zero-made.result.sum (ap (λ v. v.sum) c.zero-made.ensures) c.sort.ensures
    ∙ ap (add_terms_within program c.zero-made.result.sum) (sym c.deref-2.ensures.value) ∙ h) c.in_err-add_terms.ensures.turns)

pub returns-clause-gives : goal.returns-clause-gives
returns-clause-gives c =
    sorted_sum c.args.order c.args.terms.items c.sort.new.terms.items c.zero-made.result.sum (ap (λ v. v.sum) c.zero-made.ensures) c.sort.ensures
    ∙ ap (add_terms_within program c.zero-made.result.sum) (sym c.deref-2.ensures.value) ∙ c.in_ok-add_terms.ensures.turns

pub returns-then-are_falling-clause-gives : goal.returns-then-are_falling-clause-gives
returns-then-are_falling-clause-gives c =
    falling_sum c.args.order c.args.terms.items (subst (IsFalling c.args.order) c.deref.ensures.value (c.if-are_falling.ensures.falls refl)) (subst AreInRange c.deref.ensures.value (c.if-are_falling.ensures.range refl))
    ∙ ap (λ v. Ok v.sum) (sym c.from_terms.ensures)
