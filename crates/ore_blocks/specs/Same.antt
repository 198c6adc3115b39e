-- Whether monomials, operators, rows and lists of rows are the same can be told.
--     monomial_discrete                                    by the exponents
--     operator_discrete, row_discrete, rows_discrete       by the terms
use Rattle.std.specs.Prelude.{◌≡◌, List}
use Rattle.std.proofs.Common.{sym, ap, ◌∙◌}
use mathlib.Core.HLevel.{×_discrete}
use mathlib.Core.List.{List-discrete}
use native.Mathlib.Decide.{ℕ_discrete}
use Rattle.ore_algebra.specs.Free.{terms, sum_at}
use Rattle.ore_algebra.proofs.FreeLaws.{sum_at-terms}
use Rattle.ore_rational.specs.Fraction.{Fraction}
use Rattle.ore_rational.specs.Field.{rationals}
use Rattle.ore_rational.specs.FractionRing.{fraction_discrete}
use Rattle.ore_monomial.specs.LetterRule.{Operator}
use Rattle.ore_monomial.specs.Monomial.{Monomial, plain_cmp}
use Rattle.ore_monomial.specs.MonomialCode.{same_list}
use Rattle.ore_monomial.proofs.Monomials.{plain_cmp_total, plain_cmp_apart}
use Rattle.ore_monomial.proofs.Operators.{same_sum}
use Rattle.ore_rows.specs.Rows.{Row}

-- two monomials are the same exactly where their exponents are
pub monomial_discrete : Discrete Monomial
monomial_discrete m n = by (List-discrete ℕ_discrete m.exponents n.exponents)
  where
    by : Dec (m.exponents ≡ n.exponents) → Dec (m ≡ n)
    by (yes e) = yes (same_list m n e)
    by (no e) = no (λ h. e (ap (λ x. x.exponents) h))

-- two operators are the same exactly where their terms are
pub operator_discrete : Discrete (Operator rationals)
operator_discrete f g = by (List-discrete (×_discrete monomial_discrete fraction_discrete) (terms rationals plain_cmp f) (terms rationals plain_cmp g))
  where
    by : Dec (◌≡◌ {A = List (Monomial × Fraction)} (terms rationals plain_cmp f) (terms rationals plain_cmp g)) → Dec (f ≡ g)
    by (yes e) = yes (same_sum rationals f g (λ q. sym (sum_at-terms rationals plain_cmp_total plain_cmp_apart f q) ∙ ap (sum_at rationals plain_cmp q) e ∙ sum_at-terms rationals plain_cmp_total plain_cmp_apart g q))
    by (no e) = no (λ h. e (ap (terms rationals plain_cmp) h))

-- two rows are the same exactly where their entries are
pub row_discrete : Discrete (Row rationals)
row_discrete r q = List-discrete operator_discrete r q

-- two lists of rows are the same exactly where their rows are
pub rows_discrete : Discrete (List (Row rationals))
rows_discrete r q = List-discrete row_discrete r q
