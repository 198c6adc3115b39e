use Rattle.std.proofs.Common.{ap, reverse}
use Rattle.ore_monomial.proofs.Monomials.{twelve_numbers}
use Rattle.ore_monomial.proofs.exps.reversed.Goals as goal

pub returns : goal.returns
returns c = ap (λ es. reverse es) (twelve_numbers c.args.a.now c.told-a)
