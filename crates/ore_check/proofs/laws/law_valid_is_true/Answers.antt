use Rattle.ore_check.proofs.ValidMeans.{valid_means}
use Rattle.ore_check.proofs.laws.law_valid_is_true.Goals as goal

pub returns : goal.returns
returns c = λ r certificate long of valid. valid_means c.args.sig.now r certificate long of valid
