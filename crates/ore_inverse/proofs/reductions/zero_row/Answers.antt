use Rattle.std.proofs.lemmas.Result.{IfOk-weaker}
use Rattle.std.proofs.Common.{◌∙◌}
use Rattle.ore_rational.specs.Field.{rationals}
use Rattle.ore_inverse.proofs.ReducedInOrder.{unit_row-past}
use Rattle.ore_inverse.proofs.reductions.zero_row.Goals as goal

pub returns-clause-value : goal.returns-clause-value
returns-clause-value c = IfOk-weaker c.unit_row.result _ _ (λ r e. e ∙ unit_row-past rationals c.args.n) c.unit_row.ensures.value
