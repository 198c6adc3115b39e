use Rattle.std.proofs.Common.{◌≡◌, ◌+◌, ◌-◌, length, get_or, sym, ap, ◌∙◌, subst, arith}
use Rattle.ore_monomial.specs.Monomial.{order_cmp}
use Rattle.ore_monomial.proofs.Monomials.{order_apart}
use Rattle.ore_ring.specs.Place.{IsOver}
use Rattle.ore_ring.proofs.Splice.{over_to, later_less}
use Rattle.ore_ring.proofs.place.place.Goals as goal

pub returns-in-Less-clause-over : goal.returns-in-Less-clause-over
returns-in-Less-clause-over c =
    let ts = c.args.terms.now in
    let whole : length ts - 1 + 1 ≡ length ts = omega (arith, c.if-count-eq0.false) in
    subst (IsOver c.args.order c.args.exps.now ts) whole
    (over_to c.args.order c.args.exps.now ts (length ts - 1) c.index-terms-count.result c.requires.falls (omega (arith, c.if-count-eq0.false)) c.index-terms-count.is (sym c.in-Less.is ∙ c.compare.ensures))

pub returns-in-Equal-clause-over : goal.returns-in-Equal-clause-over
returns-in-Equal-clause-over c i d h l =
    let ts = c.args.terms.now in
    let t = c.index-terms-count.result in
    let o = c.args.order in
    ap (λ m. order_cmp o m (get_or ts i d).0) (order_apart o c.args.exps.now t.0 (sym (sym c.in-Equal.is ∙ c.compare.ensures)))
    ∙ ap (λ u. order_cmp o u.0 (get_or ts i d).0) c.index-terms-count.is
    ∙ later_less o ts c.requires.falls i (length ts - 1) d t h (omega (arith, c.if-count-eq0.false))
