use Rattle.ore_rational.specs.Field.{rationals, rational_inverses}
use Rattle.ore_rows.specs.Arithmetic.{within}
use Rattle.ore_pairs.proofs.CompleteStates.{tested, tests, closed}
use Rattle.ore_pairs.proofs.laws.law_complete_state.Goals as goal

pub returns-clause-tested : goal.returns-clause-tested
returns-clause-tested c = λ st. (tests rationals st, tested rationals st)

pub returns-clause-closed : goal.returns-clause-closed
returns-clause-closed c = λ l. closed rationals rational_inverses c.args.sig.now.order (within l c.args.sig.now)
