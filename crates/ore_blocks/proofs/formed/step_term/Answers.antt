use Rattle.std.proofs.Common.{sym, ap, ◌∙◌, subst}
use Rattle.std.specs.declared.result.Result.TheVariants.{Ok}
use Rattle.ore_monomial.specs.Signature.{Signature, MonomialOf}
use Rattle.ore_monomial.specs.declared.stop.NoMemory.{NoMemory}
use Rattle.ore_rows.proofs.Dots.{term_belongs}
use Rattle.ore_blocks.proofs.formed.step_term.Goals as goal

pub returns-clause-of : goal.returns-clause-of
returns-clause-of g c =
    let s = g.R.OreRing.sig c.args.ring.now in
    term_belongs {E = NoMemory} s c.order-order.result c.step.inside.exps c.step.inside.coef (Ok c.in_ok-term.field-0) (c.order-order.ensures ∙ ap (λ (v : Signature). v.order) c.signature.ensures) (subst (λ t. MonomialOf s t.monomial) (sym c.step.view_is) c.requires) c.in_ok-term.ensures
