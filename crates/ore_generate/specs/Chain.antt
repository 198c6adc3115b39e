-- The generated problems: for each number n a chain of 40 equations for 41 variables, over a time t and its derivative d.
-- Equation i says that the derivative of variable i is variable i + 1 times a gain. Equations and variables count from 1.
--     is_cut             the chain is cut at an equation
--     gain               the gain of an equation
--     entry              the operator of an equation at a variable
--     equation           the row of an equation
--     equations          the rows of all
--     names, signature   the names t and d, what they are, and the order of monomials
--     generated          the problem with a number
use Rattle.std.specs.Prelude.{ℕ, ◌+◌, ◌%◌, Bool, ◌&&◌, nat_eq, if◌then◌else◌, List, [], ◌∷◌, map, codes, pos, neg_ℤ, refl}
use Rattle.std.specs.List.{range_with_len}
use Rattle.ore_rational.specs.Fraction.{whole}
use Rattle.ore_rational.specs.Field.{rationals}
use Rattle.ore_monomial.specs.declared.order.Order.TheVariants.{DegRevLex}
use Rattle.ore_monomial.specs.declared.signature.VarKind.TheVariants.{Coordinate, Differential}
use Rattle.ore_monomial.specs.Signature.{Signature}
use Rattle.ore_monomial.specs.LetterRule.{Operator, constant}
use Rattle.ore_expr.specs.Values.{zero_operator, power_of_variable}
use Rattle.ore_rows.specs.Rows.{Row}
use Rattle.ore_problem.specs.Problems.{System}

-- where n is odd, at one of the 40 equations
abbrev pub is_cut : ℕ → ℕ → Bool
is_cut n i = nat_eq (n % 2) 1 && nat_eq i (1 + n % 40)

-- 0 where the chain is cut, else one of 1, 2, 3 and 4 in turn
abbrev pub gain : ℕ → ℕ → ℕ
gain n i = if is_cut n i then 0 else 1 + (n + i) % 4

-- d, which is the variable of the algebra with the index 1, at variable i; minus the gain at the next one; and zero elsewhere
abbrev pub entry : ℕ → ℕ → ℕ → Operator rationals
entry n i j = if nat_eq j i then power_of_variable 1 1 else if nat_eq j (i + 1) then constant rationals (whole (neg_ℤ (pos (gain n i)))) else zero_operator

-- at the variables from 1 to 41
unfoldable pub equation : ℕ → ℕ → Row rationals
equation n i = map (entry n i) (range_with_len 1 41)

-- from equation 1 to equation 40
unfoldable pub equations : ℕ → List (Row rationals)
equations n = map (equation n) (range_with_len 1 40)

-- in the order of declaration
abbrev pub names : List (List ℕ)
names = codes "t" ∷ codes "d" ∷ []

-- t is a coordinate, and d its derivative
abbrev pub signature : Signature
signature = record { kinds = Coordinate ∷ Differential 0 ∷ []; order = DegRevLex; accepted = refl }

-- a row for each equation, a column for each variable
abbrev pub generated : ℕ → System
generated n = record { names = names; signature = signature; cols = 41; rows = equations n }
