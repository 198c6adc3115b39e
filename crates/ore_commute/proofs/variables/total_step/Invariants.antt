use Rattle.std.proofs.Common.{◌≡◌, ◌≤◌, ◌*◌, ◌^◌, ◌+ℤ◌, nat_abs, drop}
use Rattle.ore_algebra.proofs.Integers.{integers}
use Rattle.ore_commute.specs.ClosedForm.{step_sum}
use Rattle.ore_commute.proofs.variables.total_step.Given as goal

abbrev pub invariant-loop-x : goal.invariant-loop-x
invariant-loop-x l = (l.sum +ℤ step_sum integers l.signature l.coordinate l.x (drop l.x l.monomial.exponents) ≡ step_sum integers l.signature l.coordinate 0 l.monomial.exponents) × (nat_abs l.sum ≤ l.x * 2 ^ 32)
