use Rattle.std.proofs.Common.{ap, ◌∷◌}
use Rattle.ore_monomial.proofs.Monomials.{twelve_numbers}
use Rattle.ore_monomial.proofs.exps.lex_rank.Goals as goal

pub returns : goal.returns
returns c = ap (λ es. c.args.degree ∷ es) (twelve_numbers c.args.values.now c.told-values)
