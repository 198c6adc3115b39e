-- The canonical text of an operator: one spelling for each operator.
--     power_text          the factor of one variable: its name, with `^` and the exponent above 1
--     factor_texts        the factors of a monomial, in declared order, exponents 0 left out
--     magnitude_text      a fraction without its sign, n or n/m
--     is_one, with_factors    whether a magnitude is 1; a magnitude and factors joined by `*`, a magnitude 1 left out
--                             before factors
--     term_text           a term without its sign
--     sign_text           one of two texts, by the sign of a number
--     later_text, terms_text    a term behind another, with its sign; the terms of a list with their signs
--     operator_text       the terms, falling, with their signs; 0 where there is none
use Rattle.std.specs.Prelude.{ℕ, zero, suc, Bool, if◌then◌else◌, ◌&&◌, nat_eq, List, [], ◌∷◌, ◌++◌, ℤ, pos, negsuc, nat_abs, codes, decimal}
use Rattle.std.specs.List.{join_with_byte, flat_map}
use Rattle.ore_rational.specs.Fraction.{Fraction}
use Rattle.ore_rational.specs.Field.{rationals}
use Rattle.ore_monomial.specs.declared.order.Order.{Order}
use Rattle.ore_monomial.specs.LetterRule.{Operator}
use Rattle.ore_ring.specs.Terms.{Summand, Terms, falling}

-- no text for the exponent 0, the name for 1, `name^e` for a greater e
abbrev pub power_text : List ℕ → ℕ → List (List ℕ)
power_text name zero = []
power_text name (suc zero) = name ∷ []
power_text name e = (name ++ codes "^" ++ decimal e) ∷ []

-- the factors of the variables with these names and these exponents, place by place
abbrev pub factor_texts : List (List ℕ) → List ℕ → List (List ℕ)
factor_texts (name ∷ names) (e ∷ es) = power_text name e ++ factor_texts names es
factor_texts names es = []

-- `n`, or `n/m` where the denominator m isn't 1
abbrev pub magnitude_text : Fraction → List ℕ
magnitude_text q = if nat_eq q.den 1 then decimal (nat_abs q.num) else decimal (nat_abs q.num) ++ codes "/" ++ decimal q.den

-- whether the magnitude is 1
abbrev pub is_one : Fraction → Bool
is_one q = nat_eq (nat_abs q.num) 1 && nat_eq q.den 1

-- the magnitude alone, or factors joined by `*`, the byte 42, behind a magnitude that isn't 1
abbrev pub with_factors : Fraction → List (List ℕ) → List ℕ
with_factors q [] = magnitude_text q
with_factors q factors = join_with_byte 42 (if is_one q then factors else magnitude_text q ∷ factors)

-- magnitude and factors of the term, whose variables have these names
abbrev pub term_text : List (List ℕ) → Summand → List ℕ
term_text names t = with_factors t.1 (factor_texts names t.0.exponents)

-- the first text for a number that isn't negative, the second for a negative one
abbrev pub sign_text : ℤ → List ℕ → List ℕ → List ℕ
sign_text (pos n) plus minus = plus
sign_text (negsuc n) plus minus = minus

-- a term that stands behind another, with ` + ` or ` - ` before it
abbrev pub later_text : List (List ℕ) → Summand → List ℕ
later_text names t = sign_text t.1.num (codes " + ") (codes " - ") ++ term_text names t

-- `0` where there is no term; a `-` directly before the first term, where its number is negative
abbrev pub terms_text : List (List ℕ) → Terms → List ℕ
terms_text names [] = codes "0"
terms_text names (t ∷ ts) = sign_text t.1.num [] (codes "-") ++ term_text names t ++ flat_map (later_text names) ts

-- the terms from the greatest on, in the order of monomials, where the variables have these names
unfoldable pub operator_text : List (List ℕ) → Order → Operator rationals → List ℕ
operator_text names o f = terms_text names (falling o f)
