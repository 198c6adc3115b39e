-- How leads are stored: as lists of numbers.
--     term_code       a term as its column and the exponents of its monomial
--     leads_code      a list of terms
use Rattle.std.specs.Prelude.{ℕ, List, refl}
use Rattle.std.specs.Coded.{Coded, coded×, coded_list, coded_ℕ, code_by}
use Rattle.ore_monomial.specs.Monomial.{Monomial}
use Rattle.ore_monomial.specs.MonomialCode.{monomial_code}
use Rattle.ore_monomial.specs.Term.{Term}

-- a term as its monomial beside its column
abbrev pub term_code : Coded Term
term_code = code_by (Monomial × ℕ) (coded× monomial_code coded_ℕ) (λ t. (t.monomial, t.column)) (λ p. record { monomial = p.0; column = p.1 }) (λ _. refl)

-- the codes of the terms, in order
abbrev pub leads_code : Coded (List Term)
leads_code = coded_list term_code
