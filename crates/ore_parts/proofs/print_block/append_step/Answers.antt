use Rattle.std.proofs.Common.{subst, sym}
use Rattle.std.specs.declared.result.Result.TheVariants.{Ok}
use Rattle.ore_monomial.specs.Signature.{MonomialOf}
use Rattle.ore_monomial.specs.declared.stop.NoMemory.{NoMemory}
use Rattle.ore_rows.proofs.Dots.{term_belongs}
use Rattle.ore_parts.proofs.print_block.append_step.Goals as goal

pub append_operator-requires : goal.append_operator-requires
append_operator-requires c =
    let s = c.args.algebra.now.signature.now in
    term_belongs {E = NoMemory} s c.order.result c.step.inside.exps c.step.inside.coef (Ok c.in_ok-term.term) c.order.ensures (subst (λ t. MonomialOf s t.monomial) (sym c.step.view_is) c.requires) c.in_ok-term.ensures
