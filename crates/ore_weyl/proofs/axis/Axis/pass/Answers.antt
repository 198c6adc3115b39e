use Rattle.std.proofs.Common.{min, map, sym, ap, ◌∙◌, subst, arith}
use Rattle.std.specs.Prelude.{pos}
use Rattle.std.specs.List.{All}
use Rattle.std.proofs.lemmas.Result.{err_from_is_err_and}
use Rattle.ore_algebra.specs.Limits.{Overflow}
use Rattle.ore_algebra.proofs.Integers.{integers}
use Rattle.ore_monomial.specs.Monomial.{Divides}
use Rattle.ore_monomial.proofs.Stops.{fails_like}
use Rattle.ore_commute.specs.ClosedForm.{shifted_terms, axis_terms}
use Rattle.ore_commute.specs.Product.{divided, checked}
use Rattle.ore_commute.proofs.Shifted.{divides_all, counted_next, counted_stops, counted_end}
use Rattle.ore_weyl.proofs.Unshifted.{shifted_divided, shifted_over}
use Rattle.ore_weyl.proofs.axis.Axis.pass.Goals as goal

pub returns-in_err-lowering : goal.returns-in_err-lowering
unfolding axis_terms
returns-in_err-lowering c =
    let s = c.args.self.now in
    let p = err_from_is_err_and c.from_residual.result c.from_residual.ensures.1 in
    let stop = c.in_err-lowering.ensures {u = tt} in
    rw (p.1, p.2, stop.0) (
    sym c.loop-k.invariant
    ∙ counted_stops (shifted_terms integers (pos 0) (s.coordinate, s.operator) s.left s.right c.args.terms.now) (min s.right s.left) c.loop-k.out.items c.loop-k.k Overflow (omega arith)
    (shifted_over s.coordinate s.operator s.left s.right c.args.terms.now c.loop-k.k s.within s.apart (omega arith) (omega arith) c.loop-k.out.items c.requires.started stop.1)
    )

pub add_to-requires : goal.add_to-requires
add_to-requires c =
    let s = c.args.self.now in
    let made = (c.in_ok-lowering.ensures {u = tt}).0 in
    subst (λ m. All (λ t. Divides m t.0) c.args.terms.now) (sym made) (divides_all s.coordinate s.operator s.left s.right c.loop-k.k 0 c.args.terms.now s.within s.apart (omega arith) (omega arith) c.requires.room)

pub returns-in_err-add_to : goal.returns-in_err-add_to
unfolding axis_terms
returns-in_err-add_to c =
    let s = c.args.self.now in
    let p = err_from_is_err_and c.from_residual-in_err-add_to.result c.from_residual-in_err-add_to.ensures.1 in
    let made = c.in_ok-lowering.ensures {u = tt} in
    rw (p.1, p.2) (fails_like _ _ _ (λ e h.
    sym c.loop-k.invariant
    ∙ counted_stops (shifted_terms integers (pos 0) (s.coordinate, s.operator) s.left s.right c.args.terms.now) (min s.right s.left) c.loop-k.out.items c.loop-k.k e (omega arith)
    (ap (checked c.loop-k.out.items) (shifted_divided s.coordinate s.operator s.left s.right c.args.terms.now c.loop-k.k s.within s.apart (omega arith) (omega arith))
    ∙ (λ i. checked c.loop-k.out.items (map (divided (sym made.0 i) (sym made.1 i)) c.args.terms.now)) ∙ h)) (c.in_err-add_to.ensures {u = tt}))

pub loop-k-preserved : goal.loop-k-preserved
loop-k-preserved c =
    let s = c.args.self.now in
    let made = c.in_ok-lowering.ensures {u = tt} in
    sym (counted_next (shifted_terms integers (pos 0) (s.coordinate, s.operator) s.left s.right c.args.terms.now) (min s.right s.left) c.loop-k.out.items c.add_to.new.out.items c.loop-k.k (omega arith)
    (ap (checked c.loop-k.out.items) (shifted_divided s.coordinate s.operator s.left s.right c.args.terms.now c.loop-k.k s.within s.apart (omega arith) (omega arith))
    ∙ (λ i. checked c.loop-k.out.items (map (divided (sym made.0 i) (sym made.1 i)) c.args.terms.now)) ∙ c.in_ok-add_to.ensures {u = tt}))
    ∙ c.loop-k.invariant

pub returns : goal.returns
unfolding axis_terms
returns c =
    let s = c.args.self.now in
    sym c.loop-k.invariant ∙ counted_end (shifted_terms integers (pos 0) (s.coordinate, s.operator) s.left s.right c.args.terms.now) (min s.right s.left) c.loop-k.out.items c.loop-k.k (omega arith)
