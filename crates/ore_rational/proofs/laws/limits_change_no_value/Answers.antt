use Rattle.ore_rational.proofs.WithinLaws.{sum_value, product_value, sum_unlimited, product_unlimited}
use Rattle.ore_rational.proofs.laws.limits_change_no_value.Goals as goal

pub returns-clause-sums : goal.returns-clause-sums
returns-clause-sums c = sum_value

pub returns-clause-products : goal.returns-clause-products
returns-clause-products c = product_value

pub returns-clause-all_sums : goal.returns-clause-all_sums
returns-clause-all_sums c = sum_unlimited

pub returns-clause-all_products : goal.returns-clause-all_products
returns-clause-all_products c = product_unlimited
