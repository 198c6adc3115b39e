use Rattle.std.proofs.Common.{◌+◌, [], ◌∷◌, ◌++◌, pos, sym, ap, ◌∙◌, arith}
use Rattle.std.proofs.lemmas.Result.{err_from_is_err_and}
use Rattle.ore_algebra.specs.Limits.{program}
use Rattle.ore_monomial.proofs.Stops.{fails_like}
use Rattle.ore_monomial.proofs.Signatures.{count_at_most_12}
use Rattle.ore_commute.specs.ClosedForm.{axes_below, passed as passed_of}
use Rattle.ore_commute.specs.Product.{checked}
use Rattle.ore_monomial.specs.Numbers.{are_within}
use Rattle.ore_commute.proofs.Walk.{stops_on, ends_at}
use Rattle.ore_commute.proofs.Checked.{fitting, checked_ok}
use Rattle.ore_commute.proofs.coordinates.passed.Goals as goal

pub loop-variable-init : goal.loop-variable-init
unfolding passed_of axes_below
loop-variable-init g c =
    let e = (c.in_ok-push.ensures {u = tt}).items ∙ (λ i. c.new-terms.ensures.items i ++ (c.requires.whole_is i, pos 1) ∷ []) in
    (e, ap (are_within program) e)

pub returns-in_err-terms : goal.returns-in_err-terms
returns-in_err-terms g c =
    let few = count_at_most_12 c.args.signature.now in
    let p = err_from_is_err_and c.from_residual-in_err-terms.result c.from_residual-in_err-terms.ensures.1 in
    rw (p.1, p.2) (fails_like _ _ _ (λ e h. stops_on c.args.signature.now c.args.left.now c.args.right.now (c.loop-variable.variable + 1) e (omega arith) h) (c.in_err-terms.ensures {u = tt}))

pub loop-variable-preserved : goal.loop-variable-preserved
loop-variable-preserved g c =
    let r = checked_ok [] (passed_of Rattle.ore_algebra.proofs.Integers.integers c.args.signature.now (axes_below c.args.signature.now (c.loop-variable.variable + 1)) c.args.left.now c.args.right.now) c.in_ok-terms.terms.items (c.in_ok-terms.ensures {u = tt}) in
    (r.1, ap (are_within program) r.1 ∙ r.0)

pub returns : goal.returns
returns g c =
    let few = count_at_most_12 c.args.signature.now in
    ap (checked []) (ends_at c.args.signature.now c.args.left.now c.args.right.now c.loop-variable.variable (omega arith) (omega arith) ∙ sym c.loop-variable.invariant.0)
    ∙ fitting c.loop-variable.terms.items c.loop-variable.invariant.1
