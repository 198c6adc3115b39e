use Rattle.std.proofs.Common.{◌≡◌}
use Rattle.ore_agree.proofs.operators.operator.Given as goal

abbrev pub invariant-loop-number : goal.invariant-loop-number
invariant-loop-number l = l.made.by ≡ l.initial.made.by
