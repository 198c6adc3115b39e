use Rattle.std.proofs.Common.{◌≡◌, ◌<◌, ◌^◌}
use Rattle.ore_commute.specs.ClosedForm.{falling_factorial as falling_of}
use Rattle.ore_commute.proofs.number.falling.Given as goal

abbrev pub invariant-loop-i : goal.invariant-loop-i
invariant-loop-i l = (l.value ≡ falling_of l.fn.a l.i) × (l.value < 2 ^ 127)
