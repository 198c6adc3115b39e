use Rattle.std.proofs.Common.{◌-◌, T, length, sym, ◌∙◌, subst, arith}
use Rattle.ore_ring.proofs.Falls.{less_of}
use Rattle.ore_ring.proofs.FallingSum.{below_last}
use Rattle.ore_ring.proofs.sort.follows.Goals as goal

pub returns-clause-below : goal.returns-clause-below
returns-clause-below c e =
    below_last c.args.order c.args.before.now (length c.args.before.now - 1) c.args.t.now.0 c.index-before-count.result (omega (arith, c.if-count-eq0.false)) c.index-before-count.is
    (sym c.compare.ensures ∙ less_of c.compare.result (subst T (sym (sym c.is_lt.ensures ∙ e)) tt))
