use Rattle.std.proofs.Common.{[], sym, ap, ◌∙◌, subst}
use Rattle.std.specs.declared.result.Result.TheVariants.{Err}
use Rattle.std.specs.List.Sorted.{IsPermutation, IsSortedBy}
use Rattle.std.specs.Ordering.{is_lt, flip_args}
use Rattle.std.proofs.lemmas.Result.{err_from_is_err_and}
use Rattle.ore_algebra.proofs.Integers.{integers}
use Rattle.ore_monomial.specs.Monomial.{order_cmp}
use Rattle.ore_monomial.proofs.Stops.{fails_like}
use Rattle.ore_commute.specs.ClosedForm.{closed_form}
use Rattle.ore_commute.proofs.Checked.{checked_ok, checked_err}
use Rattle.ore_commute.proofs.Within.{pass_ok, pass_degree, pass_over}
use Rattle.ore_commute.proofs.coordinates.pass_by.Goals as goal

pub returns-in_err-whole : goal.returns-in_err-whole
returns-in_err-whole g c =
    let p = err_from_is_err_and c.from_residual.result c.from_residual.ensures.1 in
    rw (p.1, p.2) (pass_degree c.args.signature.now c.args.left.now c.args.right.now (c.in_err-whole.ensures {u = tt}))

pub returns-in_err-terms : goal.returns-in_err-terms
returns-in_err-terms g c =
    let p = err_from_is_err_and c.from_residual-in_err-terms.result c.from_residual-in_err-terms.ensures.1 in
    let small = (c.in_ok-whole.ensures {u = tt}).0 in
    rw (p.1, p.2) (fails_like _ _ _ (λ e h.
    let r = checked_err [] (closed_form integers c.args.signature.now c.args.left.now c.args.right.now) e h in
    pass_over c.args.signature.now c.args.left.now c.args.right.now small r.0 ∙ ap Err (sym r.1)) (c.in_err-terms.ensures {u = tt}))

pub returns : goal.returns
returns g c =
    let r = checked_ok [] (closed_form integers c.args.signature.now c.args.left.now c.args.right.now) c.in_ok-terms.terms.items (c.in_ok-terms.ensures {u = tt}) in
    pass_ok c.args.signature.now c.args.left.now c.args.right.now c.sort_falling.new.terms.items (c.in_ok-whole.ensures {u = tt}).0 r.0
    (subst (λ ts. IsPermutation ts c.sort_falling.new.terms.items) r.1 c.sort_falling.ensures.same)
    (subst (λ o. IsSortedBy (λ t u. is_lt (flip_args (order_cmp o) t.0 u.0)) c.sort_falling.new.terms.items) c.order.ensures c.sort_falling.ensures.falls)
