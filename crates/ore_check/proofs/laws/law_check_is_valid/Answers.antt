use Rattle.ore_check.proofs.ValidKinds.{check_valid}
use Rattle.ore_check.proofs.laws.law_check_is_valid.Goals as goal

pub returns : goal.returns
returns c = λ r certificate long of claims. check_valid c.args.sig.now r certificate long of claims
