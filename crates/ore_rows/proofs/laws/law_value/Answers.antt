use Rattle.ore_rows.proofs.WithinValues.{scale_value, sum_value, difference_value, dot_value, combine_value, product_value}
use Rattle.ore_rows.proofs.laws.law_value.Goals as goal

pub returns-clause-scale : goal.returns-clause-scale
returns-clause-scale c = λ l. scale_value l c.args.sig.now

pub returns-clause-sum : goal.returns-clause-sum
returns-clause-sum c = λ l r q x h. sum_value l r q x

pub returns-clause-difference : goal.returns-clause-difference
returns-clause-difference c = λ l r q x h. difference_value l r q x

pub returns-clause-dot : goal.returns-clause-dot
returns-clause-dot c = λ l d r x h. dot_value l c.args.sig.now d r x

pub returns-clause-combine : goal.returns-clause-combine
returns-clause-combine c = λ l n d m x h k. combine_value l c.args.sig.now n d m x k

pub returns-clause-product : goal.returns-clause-product
returns-clause-product c = λ l n a b x h k. product_value l c.args.sig.now n a b x k
