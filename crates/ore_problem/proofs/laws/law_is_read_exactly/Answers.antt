use Rattle.ore_problem.proofs.AcceptedReads.{reads_exactly}
use Rattle.ore_problem.proofs.laws.law_is_read_exactly.Goals as goal

pub returns : goal.returns
returns c = reads_exactly
