use Rattle.ore_check.proofs.WrittenRight.{right_may_be_written}
use Rattle.ore_check.proofs.laws.law_right_may_be_written.Goals as goal

pub returns : goal.returns
returns c = right_may_be_written c.args.sig.now
