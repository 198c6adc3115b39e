use Rattle.std.proofs.Common.{arith}
use Rattle.ore_monomial.proofs.Monomials.{exponent-degree}
use Rattle.ore_weyl.proofs.axis.Axis.new.Goals as goal

pub invariant_of-result : goal.invariant_of-result
invariant_of-result c =
    let l = exponent-degree c.args.left.now c.args.operator in
    let r = exponent-degree c.args.right.now c.args.coordinate in
    record { within = c.requires.within; declared = c.requires.declared; apart = c.requires.apart; small = omega arith }
