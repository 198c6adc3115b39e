use Rattle.std.proofs.Common.{◌≡◌, ℕ, ◌<◌, false}
use Rattle.ore_monomial.specs.Signature.{kind_at}
use Rattle.ore_weyl.specs.Shifts.{is_shift}
use Rattle.ore_weyl.proofs.variables.has_no_shift.Given as goal

abbrev pub invariant-loop-x : goal.invariant-loop-x
invariant-loop-x l = (k : ℕ) → k < l.x → is_shift (kind_at l.signature k) ≡ false
