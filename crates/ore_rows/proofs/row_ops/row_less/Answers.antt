use Rattle.std.proofs.Common.{refl, sym, subst}
use Rattle.ore_monomial.specs.Gives.{Gives}
use Rattle.ore_rows.specs.Stored.{sums_of}
use Rattle.ore_rows.proofs.InTurn.{less_in_turn}
use Rattle.ore_rows.proofs.row_ops.row_less.Goals as goal

pub returns-then-degrees_fit_in-clause-gives : goal.returns-then-degrees_fit_in-clause-gives
returns-then-degrees_fit_in-clause-gives g c =
    subst (Gives sums_of c.less_in_turn.result)
    (sym (less_in_turn (g.R.OreRing.sig c.args.ring.now) c.args.f.now.sum c.args.row c.args.other.now c.requires.lengths (c.if-degrees_fit_in.ensures refl)))
    c.less_in_turn.ensures.gives
