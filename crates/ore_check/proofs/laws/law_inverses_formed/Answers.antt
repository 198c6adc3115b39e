use Rattle.ore_check.proofs.FormedInverses.{inverse_left_right, inverse_right_right}
use Rattle.ore_check.proofs.laws.law_inverses_formed.Goals as goal

pub returns-clause-left : goal.returns-clause-left
returns-clause-left c = λ r long of runs d h. inverse_left_right c.args.sig.now r long of runs d h

pub returns-clause-right : goal.returns-clause-right
returns-clause-right c = λ r long of runs d h. inverse_right_right c.args.sig.now r long of runs d h
