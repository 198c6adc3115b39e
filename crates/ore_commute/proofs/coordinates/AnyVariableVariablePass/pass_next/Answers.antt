use Rattle.std.proofs.Common.{[], unwrap_or, sym, ap, ◌∙◌, subst, arith}
use Rattle.std.specs.List.{All}
use Rattle.ore_algebra.proofs.Integers.{integers}
use Rattle.ore_monomial.specs.Gives.{Gives}
use Rattle.ore_monomial.proofs.Signatures.{count_at_most_12}
use Rattle.ore_commute.specs.ClosedForm.{axes_below, axis_terms, passed as passed_of, differential_of}
use Rattle.ore_commute.specs.Product.{checked, IsStarted, HasRoom}
use Rattle.ore_commute.proofs.Checked.{fitting}
use Rattle.ore_commute.proofs.Walk.{axes_coordinate, axes_other, not_coordinate, passed_absent, passed_started, passed_room}
use Rattle.ore_commute.proofs.coordinates.AnyVariableVariablePass.pass_next.Goals as goal

pub new-requires-clause-within : goal.new-requires-clause-within
new-requires-clause-within c = let few = count_at_most_12 c.args.signature.now in omega arith

pub pass-requires-clause-started : goal.pass-requires-clause-started
pass-requires-clause-started c = subst IsStarted (sym (c.as_slice.ensures.value ∙ c.requires.before)) (passed_started c.args.signature.now c.args.left.now c.args.right.now (axes_below c.args.signature.now c.args.variable))

pub pass-requires-clause-room : goal.pass-requires-clause-room
pass-requires-clause-room c =
    let few = count_at_most_12 c.args.signature.now in
    let n = c.new.ensures in
    let v = c.args.variable in
    let d = differential_of c.args.signature.now c.args.variable in
    let room = passed_room c.args.signature.now c.args.left.now c.args.right.now c.args.variable (omega arith) (sym c.kind.ensures ∙ c.in-Coordinate.is) in
    subst (λ ts. All (λ u. HasRoom c.new.result.coordinate (unwrap_or c.new.result.operator 12) c.new.result.right c.new.result.left u.0) ts) (sym (c.as_slice.ensures.value ∙ c.requires.before))
    (coe 1 0 (i. All (λ u. HasRoom (n.coordinate i) (n.operator i) (n.right i) (n.left i) u.0) (passed_of integers c.args.signature.now (axes_below c.args.signature.now c.args.variable) c.args.left.now c.args.right.now)) room)

pub returns-else-get-eq0 : goal.returns-else-get-eq0
unfolding passed_of
returns-else-get-eq0 c =
    let n = c.new.ensures in
    subst (λ ts. Gives (λ v. v.items) c.pass.result (checked [] ts))
    ((λ i. axis_terms integers (n.steps i) (n.coordinate i, n.operator i) (n.left i) (n.right i) ((c.as_slice.ensures.value ∙ c.requires.before) i))
    ∙ ap (λ ts. passed_of integers c.args.signature.now ts c.args.left.now c.args.right.now) (sym (axes_coordinate c.args.signature.now c.args.variable (sym c.kind.ensures ∙ c.in-Coordinate.is))))
    c.pass.ensures

pub get-requires : goal.get-requires
get-requires c = let few = count_at_most_12 c.args.signature.now in omega arith

pub returns-then-get-eq0 : goal.returns-then-get-eq0
returns-then-get-eq0 c =
    ap (checked []) (passed_absent c.args.signature.now c.args.left.now c.args.right.now c.args.variable (sym c.kind.ensures ∙ c.in-Coordinate.is) (sym c.get.ensures ∙ c.if-get-eq0.true) ∙ sym c.requires.before)
    ∙ fitting c.args.terms.items c.requires.within

pub returns-in_default : goal.returns-in_default
returns-in_default c =
    ap (checked []) (ap (λ ts. passed_of integers c.args.signature.now ts c.args.left.now c.args.right.now) (axes_other c.args.signature.now c.args.variable (not_coordinate _ (λ e. c.in_default.not-Coordinate (c.kind.ensures ∙ e)))) ∙ sym c.requires.before)
    ∙ fitting c.args.terms.items c.requires.within
