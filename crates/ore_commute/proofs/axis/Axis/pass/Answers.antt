use Rattle.std.proofs.Common.{unwrap_or, min, sym, ◌∙◌, arith}
use Rattle.std.proofs.lemmas.Result.{err_from_is_err_and}
use Rattle.ore_algebra.proofs.Integers.{integers}
use Rattle.ore_monomial.proofs.Stops.{fails_like}
use Rattle.ore_commute.specs.ClosedForm.{shifted_terms, axis_terms}
use Rattle.ore_commute.proofs.Shifted.{counted_next, counted_stops, counted_end}
use Rattle.ore_commute.proofs.axis.Axis.pass.Goals as goal

pub returns-in_err-pass_with : goal.returns-in_err-pass_with
unfolding axis_terms
returns-in_err-pass_with c =
    let s = c.args.self.now in
    let p = err_from_is_err_and c.from_residual.result c.from_residual.ensures.1 in
    rw (p.1, p.2) (fails_like _ _ _ (λ e h.
    sym c.loop-k.invariant
    ∙ counted_stops (shifted_terms integers s.steps (s.coordinate, unwrap_or s.operator 12) s.left s.right c.args.terms.now) (min s.right s.left) c.loop-k.out.items c.loop-k.k e (omega arith) h) (c.in_err-pass_with.ensures {u = tt}))

pub loop-k-preserved : goal.loop-k-preserved
loop-k-preserved c =
    let s = c.args.self.now in
    sym (counted_next (shifted_terms integers s.steps (s.coordinate, unwrap_or s.operator 12) s.left s.right c.args.terms.now) (min s.right s.left) c.loop-k.out.items c.pass_with.new.out.items c.loop-k.k (omega arith) (c.in_ok-pass_with.ensures {u = tt})) ∙ c.loop-k.invariant

pub returns : goal.returns
unfolding axis_terms
returns c =
    let s = c.args.self.now in
    sym c.loop-k.invariant ∙ counted_end (shifted_terms integers s.steps (s.coordinate, unwrap_or s.operator 12) s.left s.right c.args.terms.now) (min s.right s.left) c.loop-k.out.items c.loop-k.k (omega arith)
