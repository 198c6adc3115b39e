use Rattle.std.proofs.Common.{ap, sym, subst, refl}
use Rattle.ore_ring.specs.Terms.{IsBelowLast, IsFalling}
use Rattle.ore_ring.proofs.Falls.{falls_snoc}
use Rattle.ore_ring.proofs.StoredOp.{stored_terms, collect_snoc}
use Rattle.ore_ring.proofs.op.Op.push.Goals as goal

pub invariant_of-self-2 : goal.invariant_of-self-2
invariant_of-self-2 c =
    let ts = c.self.inside.terms.items in
    let o = c.self.inside.order in
    let same = stored_terms o ts c.args.self.now c.self.view_is c.self.invariant in
    let below = subst (λ us. IsBelowLast c.args.self.now.by us c.args.exps) same c.requires.below in
    subst (IsFalling o) (sym c.in_ok-push.ensures.items)
    (falls_snoc o ts (c.args.exps, c.args.coef) c.self.invariant (subst (λ p. IsBelowLast p ts c.args.exps) (sym (ap (λ w. w.by) c.self.view_is)) below) c.requires.apart)

pub returns-clause-ok : goal.returns-clause-ok
returns-clause-ok c = rw (c.in_ok-push.ensures.items, ← c.self.view_is, collect_snoc) refl
