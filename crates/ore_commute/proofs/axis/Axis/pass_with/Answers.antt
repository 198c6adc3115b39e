use Rattle.std.proofs.Common.{unwrap_or, ◌-◌, ◌≡◌, map, sym, ap, ◌∙◌, subst, arith}
use Rattle.std.proofs.lemmas.Result.{err_from_is_err_and}
use Rattle.std.specs.List.{All}
use Rattle.ore_monomial.specs.Monomial.{Divides}
use Rattle.ore_monomial.proofs.Stops.{fails_like}
use Rattle.ore_commute.specs.Product.{divided, checked}
use Rattle.ore_commute.proofs.Shifted.{divides_all, fall_bound, shifted_all, shifted_next, shifted_stops, shifted_over, shifted_end}
use Rattle.ore_commute.proofs.axis.Axis.pass_with.Goals as goal

pub returns-in_err-lowering : goal.returns-in_err-lowering
returns-in_err-lowering c =
    let s = c.args.self.now in
    let p = err_from_is_err_and c.from_residual.result c.from_residual.ensures.1 in
    let b = fall_bound s.steps (s.right - c.args.k) c.falls-j-end.result c.loop-j.j c.falls-j-end.ensures.still c.falls-j-end.ensures.moving c.loop-j-test.true in
    let stop = c.in_err-lowering.ensures {u = tt} in
    rw (p.1, p.2, stop.0) (
    ap (checked c.args.out.now.items) (shifted_all s.steps s.coordinate (unwrap_or s.operator 12) s.left s.right c.args.terms.now c.args.k)
    ∙ sym c.loop-j.invariant
    ∙ shifted_over s.steps s.coordinate (unwrap_or s.operator 12) s.left s.right c.args.terms.now c.args.k c.loop-j.j s.within s.apart c.requires.operator (omega arith) b.1 c.loop-j.out.items c.requires.started stop.1
    )

pub add_to-requires : goal.add_to-requires
add_to-requires c =
    let s = c.args.self.now in
    let b = fall_bound s.steps (s.right - c.args.k) c.falls-j-end.result c.loop-j.j c.falls-j-end.ensures.still c.falls-j-end.ensures.moving c.loop-j-test.true in
    let made = (c.in_ok-lowering.ensures {u = tt}).0 in
    subst (λ m. All (λ t. Divides m t.0) c.args.terms.now) (sym made) (divides_all s.coordinate (unwrap_or s.operator 12) s.left s.right c.args.k c.loop-j.j c.args.terms.now s.within s.apart c.requires.operator (omega arith) c.requires.room)

pub returns-in_err-add_to : goal.returns-in_err-add_to
returns-in_err-add_to c =
    let s = c.args.self.now in
    let p = err_from_is_err_and c.from_residual-in_err-add_to.result c.from_residual-in_err-add_to.ensures.1 in
    let b = fall_bound s.steps (s.right - c.args.k) c.falls-j-end.result c.loop-j.j c.falls-j-end.ensures.still c.falls-j-end.ensures.moving c.loop-j-test.true in
    let made = c.in_ok-lowering.ensures {u = tt} in
    rw (p.1, p.2) (fails_like _ _ _ (λ e h.
    ap (checked c.args.out.now.items) (shifted_all s.steps s.coordinate (unwrap_or s.operator 12) s.left s.right c.args.terms.now c.args.k)
    ∙ sym c.loop-j.invariant
    ∙ shifted_stops s.steps s.coordinate (unwrap_or s.operator 12) s.left s.right c.args.terms.now c.args.k c.loop-j.j s.within s.apart c.requires.operator (omega arith) b.1 c.loop-j.out.items e
    ((λ i. checked c.loop-j.out.items (map (divided (sym made.0 i) (sym made.1 i)) c.args.terms.now)) ∙ h)) (c.in_err-add_to.ensures {u = tt}))

pub loop-j-preserved : goal.loop-j-preserved
loop-j-preserved c =
    let s = c.args.self.now in
    let b = fall_bound s.steps (s.right - c.args.k) c.falls-j-end.result c.loop-j.j c.falls-j-end.ensures.still c.falls-j-end.ensures.moving c.loop-j-test.true in
    let made = c.in_ok-lowering.ensures {u = tt} in
    sym (shifted_next s.steps s.coordinate (unwrap_or s.operator 12) s.left s.right c.args.terms.now c.args.k c.loop-j.j s.within s.apart c.requires.operator (omega arith) b.1 c.loop-j.out.items c.add_to.new.out.items
    ((λ i. checked c.loop-j.out.items (map (divided (sym made.0 i) (sym made.1 i)) c.args.terms.now)) ∙ c.in_ok-add_to.ensures {u = tt}))
    ∙ c.loop-j.invariant

pub returns : goal.returns
returns c =
    let s = c.args.self.now in
    let e : c.loop-j.j ≡ c.falls-j-end.result = omega arith in
    ap (checked c.args.out.now.items) (shifted_all s.steps s.coordinate (unwrap_or s.operator 12) s.left s.right c.args.terms.now c.args.k)
    ∙ sym c.loop-j.invariant
    ∙ shifted_end s.steps s.coordinate (unwrap_or s.operator 12) s.left s.right c.args.terms.now c.args.k c.loop-j.out.items c.loop-j.j (λ z. e ∙ c.falls-j-end.ensures.still z) (λ z. e ∙ c.falls-j-end.ensures.moving z)
