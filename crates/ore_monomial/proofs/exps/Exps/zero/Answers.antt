use Rattle.ore_monomial.proofs.Seen.{zeros}
use Rattle.ore_monomial.proofs.exps.Exps.zero.Goals as goal

pub returns : goal.returns
returns c = zeros
