use Rattle.std.proofs.Common.{arith}
use Rattle.ore_monomial.proofs.Signatures.{count_at_most_12}
use Rattle.ore_problem.proofs.frame.Frame.declare.Goals as goal

pub declared_by-requires : goal.declared_by-requires
declared_by-requires c = omega (arith, c.self.invariant, count_at_most_12 c.self.inside.signature)
