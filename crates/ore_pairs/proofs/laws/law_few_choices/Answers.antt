use Rattle.ore_rational.specs.Field.{rationals, rational_inverses}
use Rattle.ore_rows.specs.Arithmetic.{within}
use Rattle.ore_pairs.proofs.FewChoices.{few_choices}
use Rattle.ore_pairs.proofs.laws.law_few_choices.Goals as goal

pub returns : goal.returns
returns c = λ l. few_choices rationals rational_inverses c.args.sig.now.order (within l c.args.sig.now)
