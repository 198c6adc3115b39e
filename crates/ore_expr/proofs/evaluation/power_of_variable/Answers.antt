use Rattle.std.proofs.Common.{◌<◌, sym, ap, ◌∙◌, subst, rules, arith}
use Rattle.ore_monomial.specs.Signature.{Signature, MonomialOf}
use Rattle.ore_monomial.proofs.Signatures.{count_at_most_12}
use Rattle.ore_monomial.proofs.Monomials.{power_is}
use Rattle.ore_expr.proofs.Stacks.{power_of, power_of_variable_is, term_belongs}
use Rattle.ore_expr.proofs.evaluation.power_of_variable.Goals as goal

pub offset_bounds-exponents-variable : goal.offset_bounds-exponents-variable
offset_bounds-exponents-variable g c =
    let most = count_at_most_12 (g.R.OreRing.sig c.args.ring.now) in
    let declared = c.requires.variable_of in
    let small : c.args.variable < 12 = omega arith in
    search rules

pub bounds-exponents-variable : goal.bounds-exponents-variable
bounds-exponents-variable g c =
    let most = count_at_most_12 (g.R.OreRing.sig c.args.ring.now) in
    let declared = c.requires.variable_of in
    omega arith

pub returns-clause-gives : goal.returns-clause-gives
returns-clause-gives g c =
    power_of_variable_is c.order.result c.in_ok-exps.exps c.one.result c.args.variable c.args.exponent c.in_ok-term.field-0 c.in_ok-term.ensures
    ((c.in_ok-exps.ensures {u = tt}).1 ∙ power_is c.args.variable c.args.exponent) c.one.ensures

pub returns-clause-of : goal.returns-clause-of
returns-clause-of g c =
    let s = g.R.OreRing.sig c.args.ring.now in
    term_belongs s c.order.result c.in_ok-exps.exps c.one.result c.in_ok-term.field-0 c.in_ok-term.ensures
    (c.order.ensures ∙ ap (λ (v : Signature). v.order) c.signature-signature.ensures)
    (subst (MonomialOf s) (sym ((c.in_ok-exps.ensures {u = tt}).1 ∙ power_is c.args.variable c.args.exponent)) (power_of s c.args.variable c.args.exponent c.requires.variable_of))
