use Rattle.std.proofs.Common.{◌+◌}
use Rattle.ore_monomial.specs.Monomial.{zip_with}
use Rattle.ore_monomial.proofs.Seen.{zip_with_literally}
use Rattle.ore_monomial.proofs.exps.added.Goals as goal

pub returns : goal.returns
unfolding zip_with
returns c = zip_with_literally ◌+◌ c.args.a.now c.args.b.now c.told-a c.told-b
