use Rattle.ore_problem.proofs.FrontReads.{prefix_reads_exactly}
use Rattle.ore_problem.proofs.laws.law_prefix_is_read_exactly.Goals as goal

pub returns : goal.returns
returns c = prefix_reads_exactly
