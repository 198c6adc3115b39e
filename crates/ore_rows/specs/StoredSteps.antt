-- How steps are stored: as lists of numbers.
--     step_code, steps_code          a step, and a list of steps
use Rattle.std.specs.Prelude.{ℕ, List, refl}
use Rattle.std.specs.Coded.{Coded, coded×, coded_list, coded_ℕ, code_by}
use Rattle.ore_rational.specs.Fraction.{Fraction}
use Rattle.ore_rational.specs.Reduced.{fraction_code}
use Rattle.ore_rational.specs.Field.{rationals}
use Rattle.ore_monomial.specs.Monomial.{Monomial}
use Rattle.ore_monomial.specs.MonomialCode.{monomial_code}
use Rattle.ore_rows.specs.Reduction.{Step}

-- the index beside the codes of the monomial and of the number
abbrev pub step_code : Coded (Step rationals)
step_code = code_by (ℕ × (Monomial × Fraction)) (coded× coded_ℕ (coded× monomial_code fraction_code)) (λ t. (t.index, (t.monomial, t.number))) (λ p. record { index = p.0; monomial = p.1.0; number = p.1.1 }) (λ _. refl)

-- the codes of the steps, in order
abbrev pub steps_code : Coded (List (Step rationals))
steps_code = coded_list step_code
