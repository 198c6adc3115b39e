-- The first of some terms that divides a term.
--     divides_term       the columns are equal, and no exponent is greater
--     first_divisor      the least place of a term that divides
use Rattle.std.specs.Prelude.{ℕ, Bool, List, ◌&&◌, nat_eq, nat_le, position}
use Rattle.std.specs.List.{list_all, zip}
use Rattle.std.specs.declared.option.Option.{Option}
use Rattle.ore_monomial.specs.Term.{Term}

-- t stands in the column of u, and none of its exponents is greater than that of u
unfoldable pub divides_term : Term → Term → Bool
divides_term t u = nat_eq t.column u.column && list_all (λ p. nat_le p.0 p.1) (zip t.monomial.exponents u.monomial.exponents)

-- the first place, counted from 0, at which a term divides u
abbrev pub first_divisor : List Term → Term → Option ℕ
first_divisor ts u = position (λ t. divides_term t u) ts
