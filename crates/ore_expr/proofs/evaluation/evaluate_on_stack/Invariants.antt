use Rattle.std.proofs.Common.{◌≡◌, [], drop}
use Rattle.std.specs.List.{All}
use Rattle.ore_algebra.specs.Limits.{program, fold_within}
use Rattle.ore_ring.specs.Belongs.{Belongs}
use Rattle.ore_expr.specs.Evaluation.{applied}
use Rattle.ore_expr.specs.Stack.{values_of}
use Rattle.ore_expr.proofs.evaluation.evaluate_on_stack.Given as goal

abbrev pub invariant-loop-instruction : goal.invariant-loop-instruction
invariant-loop-instruction g l = record {
  told : fold_within (applied program (g.R.OreRing.sig l.ring)) (values_of l.stack.items) (drop l.instruction-index l.instructions) ≡ fold_within (applied program (g.R.OreRing.sig l.ring)) [] l.instructions;
  belongs : All (Belongs (g.R.OreRing.sig l.ring)) l.stack.items;
}
