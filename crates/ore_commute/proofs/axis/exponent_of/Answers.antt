use Rattle.std.proofs.Common.{sym, lit≤}
use Rattle.ore_monomial.proofs.Monomials.{exponent_past}
use Rattle.ore_commute.proofs.axis.exponent_of.Goals as goal

pub returns-in-None : goal.returns-in-None
returns-in-None c = rw c.in-None.is (sym (exponent_past 12 c.args.monomial.now (lit≤ tt)))
