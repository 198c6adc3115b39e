use Rattle.ore_check.proofs.ValidAnswers.{valid_passes}
use Rattle.ore_check.proofs.laws.law_valid_passes.Goals as goal

pub returns : goal.returns
returns c = λ l r certificate long of valid claims. valid_passes l c.args.sig.now r certificate long of valid claims
