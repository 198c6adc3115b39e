-- What contracts see of a stored operator: the operator beside the order of its terms.
--     Ordered                        an order, and an operator over the fractions
--     operator_code, ordered_code    codes of these values as lists of numbers
--     coefficient_code               the code of coefficients
use Rattle.std.specs.Prelude.{refl}
use Rattle.std.specs.Coded.{Coded, coded×, code_by}
use Rattle.std.specs.FinMap as finite_map
use Rattle.ore_algebra.specs.Free.{NonZero, non_zero_of}
use Rattle.ore_algebra.proofs.FreeLaws.{non_zero_again}
use Rattle.ore_rational.specs.Fraction.{Fraction}
use Rattle.ore_rational.specs.Reduced.{fraction_code}
use Rattle.ore_rational.specs.Field.{rationals}
use Rattle.ore_monomial.specs.declared.order.Order.{Order}
use Rattle.ore_monomial.specs.LetterRule.{Operator}
use Rattle.ore_monomial.specs.MonomialCode.{monomial_code}
use Rattle.ore_monomial.specs.SignatureCode.{order_code}

pub record Ordered : Type 0 where
  pub by : Order
  pub sum : Operator rationals

-- ---- codes

abbrev pub coefficient_code : Coded (NonZero rationals)
coefficient_code = code_by Fraction fraction_code (λ v. v.value) (non_zero_of rationals) (non_zero_again rationals)

abbrev pub operator_code : Coded (Operator rationals)
operator_code = finite_map.code monomial_code coefficient_code

abbrev pub ordered_code : Coded Ordered
ordered_code = code_by (Order × Operator rationals) (coded× order_code operator_code) (λ v. (v.by, v.sum)) (λ p. record { by = p.0; sum = p.1 }) (λ _. refl)
