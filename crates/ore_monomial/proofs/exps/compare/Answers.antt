use Rattle.std.proofs.Common.{ap, ap₂, sym, ◌∙◌, nat_cmp, reverse, subst, ◌≢◌}
use Rattle.std.specs.declared.cmp.Ordering.{Ordering}
use Rattle.std.specs.declared.cmp.Ordering.TheVariants.{Equal}
use Rattle.std.specs.Cmp.Lexicographic.{slice_cmp}
use Rattle.ore_monomial.specs.Monomial.{order_cmp}
use Rattle.ore_monomial.specs.declared.order.Order.TheVariants.{DegLex, DegRevLex}
use Rattle.ore_monomial.proofs.Orders.{degrees_apart, degrees_same}
use Rattle.ore_monomial.proofs.Seen.{values_are, total_is}
use Rattle.ore_monomial.proofs.exps.compare.Goals as goal

pub returns-in-DegLex : goal.returns-in-DegLex
returns-in-DegLex c =
    let m = c.args.a.now in
    let n = c.args.b.now in
    let same_degree = ap₂ nat_cmp (sym (total_is c.a.inside m c.a.view_is c.a.invariant)) (sym (total_is c.b.inside n c.b.view_is c.b.invariant)) ∙ sym c.cmp.ensures ∙ c.in-Equal.is in
    c.cmp-in-DegLex.ensures ∙ ap₂ (slice_cmp nat_cmp) (values_are c.a.inside m c.a.view_is c.a.invariant) (values_are c.b.inside n c.b.view_is c.b.invariant)
    ∙ degrees_same DegLex m n same_degree ∙ ap (λ o. order_cmp o m n) (sym c.in-DegLex.is)

pub returns-in-DegRevLex : goal.returns-in-DegRevLex
returns-in-DegRevLex c =
    let m = c.args.a.now in
    let n = c.args.b.now in
    let same_degree = ap₂ nat_cmp (sym (total_is c.a.inside m c.a.view_is c.a.invariant)) (sym (total_is c.b.inside n c.b.view_is c.b.invariant)) ∙ sym c.cmp.ensures ∙ c.in-Equal.is in
    let first = c.reversed.ensures ∙ ap reverse (values_are c.b.inside n c.b.view_is c.b.invariant) in
    let second = c.reversed-in-DegRevLex.ensures ∙ ap reverse (values_are c.a.inside m c.a.view_is c.a.invariant) in
    c.cmp-in-DegRevLex.ensures ∙ ap₂ (slice_cmp nat_cmp) first second ∙ degrees_same DegRevLex m n same_degree ∙ ap (λ o. order_cmp o m n) (sym c.in-DegRevLex.is)

pub returns-in_default : goal.returns-in_default
returns-in_default c =
    let a = total_is c.a.inside c.args.a.now c.a.view_is c.a.invariant in
    let b = total_is c.b.inside c.args.b.now c.b.view_is c.b.invariant in
    let is = c.cmp.ensures ∙ ap₂ nat_cmp a b in
    is ∙ degrees_apart c.args.order c.args.a.now c.args.b.now (subst (λ (r : Ordering). r ≢ Equal) is c.in_default.not-Equal)
