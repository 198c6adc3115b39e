use Rattle.ore_ring.proofs.ZeroSums.{plus_zero, zero_plus}
use Rattle.ore_rows.proofs.ZeroOperands.{minus_zero, times_zero, zero_times, adjoint_none}
use Rattle.ore_rows.proofs.laws.law_zero.Goals as goal

pub returns-clause-product : goal.returns-clause-product
returns-clause-product c = λ l f. (times_zero l c.args.sig.now f, zero_times l c.args.sig.now f)

pub returns-clause-sum : goal.returns-clause-sum
returns-clause-sum c = λ l f. (plus_zero l f, zero_plus l f)

pub returns-clause-difference : goal.returns-clause-difference
returns-clause-difference c = minus_zero

pub returns-clause-adjoint : goal.returns-clause-adjoint
returns-clause-adjoint c = λ l. adjoint_none l c.args.sig.now
