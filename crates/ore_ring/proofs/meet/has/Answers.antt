use Rattle.std.proofs.Common.{arith}
use Rattle.ore_monomial.proofs.Monomials.{exponent_past}
use Rattle.ore_ring.proofs.meet.has.Goals as goal

pub returns-then-variable-ge12 : goal.returns-then-variable-ge12
returns-then-variable-ge12 c e = exponent_past c.args.variable c.args.monomial.now (omega (arith, c.if-variable-ge12.true))
