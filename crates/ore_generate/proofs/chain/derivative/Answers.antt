use Rattle.std.proofs.Common.{refl, sym, ◌∙◌, subst, arith}
use Rattle.ore_monomial.specs.Signature.{MonomialOf}
use Rattle.ore_monomial.proofs.Monomials.{power_is}
use Rattle.ore_expr.specs.Values.{power_of_variable}
use Rattle.ore_expr.proofs.Stacks.{power_of}
use Rattle.ore_rows.proofs.Dots.{term_belongs}
use Rattle.ore_generate.specs.Chain.{signature}
use Rattle.ore_generate.proofs.Chains.{term_sum, power_of_variable_is}
use Rattle.ore_generate.proofs.chain.derivative.Goals as goal

pub returns-clause-value : goal.returns-clause-value
returns-clause-value c = term_sum _ c.in-Ok.d c.one.result c.term.result (power_of_variable 1 1) (power_of_variable_is c.in-Ok.d c.one.result 1 1 (c.in-Ok.ensures.1 ∙ power_is 1 1) c.one.ensures) c.term.ensures

pub returns-clause-of : goal.returns-clause-of
returns-clause-of c = term_belongs signature _ c.in-Ok.d c.one.result c.term.result refl (subst (MonomialOf signature) (sym (c.in-Ok.ensures.1 ∙ power_is 1 1)) (power_of signature 1 1 (omega arith))) c.term.ensures
