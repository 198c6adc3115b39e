use Rattle.std.proofs.Common.{arith, sym}
use Rattle.ore_problem.proofs.FrameLemmas.{index_of_below}
use Rattle.ore_problem.proofs.frame.coordinate_index.Goals as goal

pub overflow_cast-result : goal.overflow_cast-result
overflow_cast-result c = omega (arith, index_of_below c.args.names.now c.args.name.now c.in-Some.index (sym c.in-Some.ensures), c.requires)
