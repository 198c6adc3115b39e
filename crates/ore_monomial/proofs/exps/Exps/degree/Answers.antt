use Rattle.ore_monomial.proofs.Seen.{total_is}
use Rattle.ore_monomial.proofs.exps.Exps.degree.Goals as goal

pub returns-clause-value : goal.returns-clause-value
returns-clause-value c = total_is c.self.inside c.args.self.now c.self.view_is c.self.invariant
