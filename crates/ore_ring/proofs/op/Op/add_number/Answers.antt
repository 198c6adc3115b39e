use Rattle.std.proofs.Common.{true≢false, sym, ap, ◌∙◌, subst}
use Rattle.std.proofs.lemmas.Result.{err_from_is_err_and}
use Rattle.ore_algebra.specs.Free.{collect, sum_at}
use Rattle.ore_rational.specs.Field.{rationals}
use Rattle.ore_monomial.specs.Gives.{Turns}
use Rattle.ore_monomial.specs.Monomial.{plain_cmp}
use Rattle.ore_monomial.proofs.Stops.{fails_like}
use Rattle.ore_ring.proofs.AddTerm.{added, nothing_added}
use Rattle.ore_ring.proofs.TermSums.{number_stops, number_adds}
use Rattle.ore_ring.proofs.op.Op.add_number.Goals as goal

pub returns-in_err-sum-clause-turns : goal.returns-in_err-sum-clause-turns
returns-in_err-sum-clause-turns c =
    let p = err_from_is_err_and c.from_residual.result c.from_residual.ensures.1 in
    rw (p.1, p.2) (fails_like _ _ _ (λ e h. number_stops c.args.self.now.sum c.self.inside.terms.items c.args.exps c.args.coef c.number_at.result (ap (λ v. v.sum) c.self.view_is) (c.number_at.ensures ∙ ap (λ ts. sum_at rationals plain_cmp c.args.exps ts) c.deref-2.ensures.value) e h) c.in_err-sum.ensures)

pub returns-then-is_zero-clause-turns : goal.returns-then-is_zero-clause-turns
returns-then-is_zero-clause-turns c =
    sym (number_adds c.args.self.now.sum c.self.inside.terms.items c.args.exps c.args.coef c.number_at.result (ap (λ v. v.sum) c.self.view_is) (c.number_at.ensures ∙ ap (λ ts. sum_at rationals plain_cmp c.args.exps ts) c.deref-2.ensures.value) c.in_ok-sum.field-0 c.in_ok-sum.ensures)
    ∙ nothing_added c.args.self.now.sum c.args.exps c.args.coef (c.is_zero.ensures.0 c.if-is_zero.true)

pub invariant_of-self : goal.invariant_of-self
invariant_of-self c =
    (added c.self.inside.order c.args.self.now.sum c.self.inside.terms.items c.splice.new.terms.items c.args.exps c.args.coef (ap (λ v. v.sum) c.self.view_is) c.self.invariant (λ e. true≢false (sym (c.is_zero.ensures.1 e) ∙ c.if-is_zero.false)) c.splice.result c.splice.ensures.turns c.splice.ensures.err).0

pub returns-clause-turns : goal.returns-clause-turns
returns-clause-turns c =
    subst (Turns c.splice.result (collect rationals plain_cmp c.splice.new.terms.items))
    (number_adds c.args.self.now.sum c.self.inside.terms.items c.args.exps c.args.coef c.number_at.result (ap (λ v. v.sum) c.self.view_is) (c.number_at.ensures ∙ ap (λ ts. sum_at rationals plain_cmp c.args.exps ts) c.deref-2.ensures.value) c.in_ok-sum.field-0 c.in_ok-sum.ensures)
    (added c.self.inside.order c.args.self.now.sum c.self.inside.terms.items c.splice.new.terms.items c.args.exps c.args.coef (ap (λ v. v.sum) c.self.view_is) c.self.invariant (λ e. true≢false (sym (c.is_zero.ensures.1 e) ∙ c.if-is_zero.false)) c.splice.result c.splice.ensures.turns c.splice.ensures.err).1
