use Rattle.ore_check.proofs.FormedVerdicts.{analyse_right}
use Rattle.ore_check.proofs.laws.law_verdicts_formed.Goals as goal

pub returns : goal.returns
returns c = λ r long of runs d h. analyse_right c.args.sig.now r long of runs d h
