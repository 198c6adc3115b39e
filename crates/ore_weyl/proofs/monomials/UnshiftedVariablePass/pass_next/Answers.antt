use Rattle.std.proofs.Common.{◌≡◌, [], unwrap_or, sym, ap, ◌∙◌, lit≤, subst, arith}
use Rattle.std.specs.Prelude.{pos}
use Rattle.std.specs.List.{All}
use Rattle.ore_algebra.proofs.Integers.{integers}
use Rattle.ore_monomial.specs.Gives.{Gives}
use Rattle.ore_monomial.specs.Monomial.{exponent}
use Rattle.ore_monomial.proofs.Monomials.{exponent_past}
use Rattle.ore_monomial.proofs.Signatures.{count_at_most_12}
use Rattle.ore_commute.specs.ClosedForm.{axes_below, axis_terms, passed as passed_of, differential_of}
use Rattle.ore_commute.specs.Product.{checked, IsStarted, HasRoom}
use Rattle.ore_commute.proofs.Checked.{fitting}
use Rattle.ore_commute.proofs.Walk.{passed_started, passed_room}
use Rattle.ore_weyl.proofs.Unshifted.{operator_is, passed_axis, passed_same}
use Rattle.ore_weyl.proofs.monomials.UnshiftedVariablePass.pass_next.Goals as goal

pub returns-then-get-eq0 : goal.returns-then-get-eq0
returns-then-get-eq0 c =
    let index : c.in-Some.operator ≡ differential_of c.args.signature.now c.args.variable = ap (λ o. unwrap_or o 12) (sym c.in-Some.is) ∙ c.differential_of.ensures.index in
    let none : exponent c.args.left.now (differential_of c.args.signature.now c.args.variable) ≡ 0 = ap (exponent c.args.left.now) (sym index) ∙ sym c.get.ensures ∙ c.if-get-eq0.true in
    ap (checked []) (passed_same c.args.signature.now c.requires.serves c.args.left.now c.args.right.now c.args.variable (omega arith) ∙ sym c.requires.before)
    ∙ fitting c.args.terms.items c.requires.within

pub get-requires-in-Some : goal.get-requires-in-Some
get-requires-in-Some c = let few = count_at_most_12 c.args.signature.now in omega arith

pub returns-then-get-eq0-2 : goal.returns-then-get-eq0-2
returns-then-get-eq0-2 c =
    let none : exponent c.args.right.now c.args.variable ≡ 0 = sym c.get-in-Some.ensures ∙ c.if-get-eq0-2.true in
    ap (checked []) (passed_same c.args.signature.now c.requires.serves c.args.left.now c.args.right.now c.args.variable (omega arith) ∙ sym c.requires.before)
    ∙ fitting c.args.terms.items c.requires.within

pub returns-in-None : goal.returns-in-None
returns-in-None c =
    let index : 12 ≡ differential_of c.args.signature.now c.args.variable = ap (λ o. unwrap_or o 12) (sym c.in-None.is) ∙ c.differential_of.ensures.index in
    let none : exponent c.args.left.now (differential_of c.args.signature.now c.args.variable) ≡ 0 = ap (exponent c.args.left.now) (sym index) ∙ exponent_past 12 c.args.left.now (lit≤ tt) in
    ap (checked []) (passed_same c.args.signature.now c.requires.serves c.args.left.now c.args.right.now c.args.variable (omega arith) ∙ sym c.requires.before)
    ∙ fitting c.args.terms.items c.requires.within

pub new-requires-clause-within : goal.new-requires-clause-within
new-requires-clause-within c = let few = count_at_most_12 c.args.signature.now in omega arith

pub new-requires-clause-apart : goal.new-requires-clause-apart
new-requires-clause-apart c =
    let index : c.in-Some.operator ≡ differential_of c.args.signature.now c.args.variable = ap (λ o. unwrap_or o 12) (sym c.in-Some.is) ∙ c.differential_of.ensures.index in
    let within = c.differential_of.ensures.within c.in-Some.operator c.in-Some.is in
    let before = (operator_is c.args.signature.now c.args.variable (omega arith)).0 in
    λ e. absurd (omega arith)

pub pass-requires-clause-started : goal.pass-requires-clause-started
pass-requires-clause-started c = subst IsStarted (sym (c.as_slice.ensures.value ∙ c.requires.before)) (passed_started c.args.signature.now c.args.left.now c.args.right.now (axes_below c.args.signature.now c.args.variable))

pub pass-requires-clause-room : goal.pass-requires-clause-room
pass-requires-clause-room c =
    let few = count_at_most_12 c.args.signature.now in
    let n = c.new.ensures in
    let d = differential_of c.args.signature.now c.args.variable in
    let index : c.in-Some.operator ≡ d = ap (λ o. unwrap_or o 12) (sym c.in-Some.is) ∙ c.differential_of.ensures.index in
    let within = c.differential_of.ensures.within c.in-Some.operator c.in-Some.is in
    let coordinate = (operator_is c.args.signature.now c.args.variable (omega arith)).1 in
    let room = passed_room c.args.signature.now c.args.left.now c.args.right.now c.args.variable (omega arith) coordinate in
    subst (λ ts. All (λ u. HasRoom c.new.result.coordinate c.new.result.operator c.new.result.right c.new.result.left u.0) ts) (sym (c.as_slice.ensures.value ∙ c.requires.before))
    (coe 1 0 (i. All (λ u. HasRoom (n.coordinate i) ((n.operator ∙ index) i) (n.right i) ((n.left ∙ ap (exponent c.args.left.now) index) i) u.0) (passed_of integers c.args.signature.now (axes_below c.args.signature.now c.args.variable) c.args.left.now c.args.right.now)) room)

pub returns-else-get-eq0-2 : goal.returns-else-get-eq0-2
returns-else-get-eq0-2 c =
    let n = c.new.ensures in
    let index : c.in-Some.operator ≡ differential_of c.args.signature.now c.args.variable = ap (λ o. unwrap_or o 12) (sym c.in-Some.is) ∙ c.differential_of.ensures.index in
    let within = c.differential_of.ensures.within c.in-Some.operator c.in-Some.is in
    let coordinate = (operator_is c.args.signature.now c.args.variable (omega arith)).1 in
    subst (λ ts. Gives (λ v. v.items) c.pass.result (checked [] ts))
    ((λ i. axis_terms integers (pos 0) (n.coordinate i, (n.operator ∙ index) i) ((n.left ∙ ap (exponent c.args.left.now) index) i) (n.right i) ((c.as_slice.ensures.value ∙ c.requires.before) i))
    ∙ sym (passed_axis c.args.signature.now c.requires.serves c.args.left.now c.args.right.now c.args.variable coordinate))
    c.pass.ensures
