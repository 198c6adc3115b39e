use Rattle.ore_adjoint.proofs.AdjointValues.{matrix_unlimited, matrix_at_most, matrix_value}
use Rattle.ore_adjoint.proofs.laws.law_adjoint_value.Goals as goal

pub returns-clause-unlimited : goal.returns-clause-unlimited
returns-clause-unlimited c = matrix_unlimited c.args.sig.now

pub returns-clause-at_most : goal.returns-clause-at_most
returns-clause-at_most c = λ l. matrix_at_most l c.args.sig.now

pub returns-clause-value : goal.returns-clause-value
returns-clause-value c = λ l. matrix_value l c.args.sig.now
