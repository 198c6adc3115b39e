use Rattle.ore_rows.proofs.WithinValues.{scale_at_most, sum_at_most, difference_at_most, dot_at_most, combine_at_most, product_at_most}
use Rattle.ore_rows.proofs.laws.law_at_most.Goals as goal

pub returns-clause-scale : goal.returns-clause-scale
returns-clause-scale c = λ l. scale_at_most l c.args.sig.now

pub returns-clause-sum : goal.returns-clause-sum
returns-clause-sum c = sum_at_most

pub returns-clause-difference : goal.returns-clause-difference
returns-clause-difference c = difference_at_most

pub returns-clause-dot : goal.returns-clause-dot
returns-clause-dot c = λ l. dot_at_most l c.args.sig.now

pub returns-clause-combine : goal.returns-clause-combine
returns-clause-combine c = λ l. combine_at_most l c.args.sig.now

pub returns-clause-product : goal.returns-clause-product
returns-clause-product c = λ l. product_at_most l c.args.sig.now
