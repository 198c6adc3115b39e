use Rattle.ore_rows.proofs.WithinValues.{scale_unlimited, sum_unlimited, difference_unlimited, dot_unlimited, combine_unlimited, product_unlimited}
use Rattle.ore_rows.proofs.laws.law_unlimited.Goals as goal

pub returns-clause-scale : goal.returns-clause-scale
returns-clause-scale c = scale_unlimited c.args.sig.now

pub returns-clause-sum : goal.returns-clause-sum
returns-clause-sum c = λ r q h. sum_unlimited r q

pub returns-clause-difference : goal.returns-clause-difference
returns-clause-difference c = λ r q h. difference_unlimited r q

pub returns-clause-dot : goal.returns-clause-dot
returns-clause-dot c = λ d r h. dot_unlimited c.args.sig.now d r

pub returns-clause-combine : goal.returns-clause-combine
returns-clause-combine c = λ n d m h k. combine_unlimited c.args.sig.now n d m k

pub returns-clause-product : goal.returns-clause-product
returns-clause-product c = λ n a b h k. product_unlimited c.args.sig.now n a b k
