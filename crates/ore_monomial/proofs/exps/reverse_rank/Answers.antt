use Rattle.std.proofs.Common.{ap, ◌∷◌, ◌-◌, map, reverse}
use Rattle.ore_monomial.proofs.Monomials.{twelve_numbers}
use Rattle.ore_monomial.proofs.exps.reverse_rank.Goals as goal

pub returns : goal.returns
returns c = ap (λ es. c.args.degree ∷ map (λ e. c.args.degree - e) (reverse es)) (twelve_numbers c.args.values.now c.told-values)
