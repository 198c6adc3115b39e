use Rattle.std.proofs.Common.{refl, arith}
use Rattle.ore_weyl.proofs.Unshifted.{none_shifts}
use Rattle.ore_weyl.proofs.variables.has_no_shift.Goals as goal

pub returns : goal.returns
returns c = (λ t. none_shifts c.args.signature.now (λ k l. c.loop-x.invariant k (omega arith)), λ n. refl)
