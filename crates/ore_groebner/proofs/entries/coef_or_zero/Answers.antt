use Rattle.std.proofs.Common.{sym, subst}
use Rattle.ore_monomial.specs.Signature.{MonomialOf}
use Rattle.ore_monomial.proofs.Declared.{MonomialOf-unit}
use Rattle.ore_rows.proofs.Dots.{zero_belongs, term_belongs}
use Rattle.ore_groebner.proofs.entries.coef_or_zero.Goals as goal

pub returns-then-not-here-clause-of : goal.returns-then-not-here-clause-of
returns-then-not-here-clause-of c = zero_belongs c.args.sig.now c.order.result c.zero.result c.zero.ensures c.order.ensures

pub returns-clause-of : goal.returns-clause-of
returns-clause-of c =
    let s = c.args.sig.now in
    term_belongs s c.order-2.result c.zero-2.result c.args.coef c.term.result c.order-2.ensures (subst (MonomialOf s) (sym c.zero-2.ensures) (MonomialOf-unit s)) c.term.ensures
