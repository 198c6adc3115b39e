use Rattle.std.proofs.Common.{sym, ap, ◌∙◌, subst}
use Rattle.ore_monomial.specs.Signature.{Signature, MonomialOf}
use Rattle.ore_expr.proofs.Stacks.{constant_is, term_belongs, unit_of}
use Rattle.ore_expr.proofs.evaluation.constant.Goals as goal

pub returns-clause-gives : goal.returns-clause-gives
returns-clause-gives g c = constant_is c.order.result c.zero.result c.args.number c.in_ok-term.field-0 c.in_ok-term.ensures c.zero.ensures

pub returns-clause-of : goal.returns-clause-of
returns-clause-of g c =
    let s = g.R.OreRing.sig c.args.ring.now in
    term_belongs s c.order.result c.zero.result c.args.number c.in_ok-term.field-0 c.in_ok-term.ensures
    (c.order.ensures ∙ ap (λ (v : Signature). v.order) c.signature.ensures)
    (subst (MonomialOf s) (sym c.zero.ensures) (unit_of s))
