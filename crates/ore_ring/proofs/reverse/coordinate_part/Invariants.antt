use Rattle.std.proofs.Common.{◌≡◌, length}
use Rattle.ore_ring.proofs.AdjointSteps.{Before, Rest}
use Rattle.ore_ring.proofs.reverse.coordinate_part.Given as goal

abbrev pub invariant-loop-k : goal.invariant-loop-k
invariant-loop-k l = record {
  long : length l.values ≡ 12;
  before : Before l.sig l.exps l.k l.values;
  rest : Rest l.sig l.exps l.k l.values;
}
