use Rattle.ore_check.proofs.KindsAtMost.{check_most}
use Rattle.ore_check.proofs.laws.law_check_at_most.Goals as goal

pub returns : goal.returns
returns c = λ l r certificate claims. check_most l c.args.sig.now r certificate claims
