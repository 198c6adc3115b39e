use Rattle.ore_problem.proofs.AgainReads.{printed_is_read}
use Rattle.ore_problem.proofs.laws.law_printed_is_read.Goals as goal

pub returns : goal.returns
returns c = printed_is_read
