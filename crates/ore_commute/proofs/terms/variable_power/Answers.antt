use Rattle.ore_commute.proofs.Divisors.{power_exact}
use Rattle.ore_commute.proofs.terms.variable_power.Goals as goal

pub returns : goal.returns
returns c = power_exact c.args.variable c.args.exponent c.requires c.from_list.result c.from_list.ensures
