-- The value of an expression: its operations in the order in which they are formed, inner ones first and the left side
-- before the right, each within limits.
--     zero_operator                    zero
--     power_of_variable                a power of a variable
--     variable_index                   the index of a name, 0 where it isn't declared
--     power_within                     so many factors, from the left
--     expression_value, term_value, factor_value, atom_value      the value of each
use Rattle.std.specs.Prelude.{ℕ, zero, suc, List, pos}
use Rattle.std.specs.Option.{unwrap_or}
use Rattle.std.specs.declared.result.Result.{Result}
use Rattle.std.specs.declared.result.Result.TheVariants.{Ok}
use Rattle.std.specs.Str.Parse.{digits_value}
use Rattle.ore_algebra.specs.Free.{empty_sum, single}
use Rattle.ore_algebra.specs.Limits.{Limits, Cause, ◌>>=◌}
use Rattle.ore_rational.specs.Fraction.{whole, reduce}
use Rattle.ore_rational.specs.Field.{rationals}
use Rattle.ore_monomial.specs.Monomial.{unit, with_exponent, plain_cmp}
use Rattle.ore_monomial.specs.Signature.{Signature}
use Rattle.ore_monomial.specs.LetterRule.{Operator, constant}
use Rattle.ore_ring.specs.Within.{plus_within, minus_within, times_within}
use Rattle.ore_expr.specs.Grammar.{Expression, Single, Negated, Sum, Difference, Term, Alone, Product, Factor, Bare, Power, Atom, Whole, Quotient, Variable, Group}
use Rattle.ore_expr.specs.Faults.{index_of}

-- the operator without terms
abbrev pub zero_operator : Operator rationals
zero_operator = empty_sum rationals plain_cmp

-- the variable x with this exponent, as one monomial
unfoldable pub power_of_variable : ℕ → ℕ → Operator rationals
power_of_variable x e = single rationals plain_cmp (with_exponent x e unit) (whole (pos 1))

-- the index of a declared name
abbrev pub variable_index : List (List ℕ) → List ℕ → ℕ
variable_index names name = unwrap_or (index_of names name) 0

module _ (l : Limits) (s : Signature) where
  -- no factor gives 1, and n factors are multiplied from the left
  unfoldable pub power_within : ℕ → Operator rationals → Result (Operator rationals) Cause
  power_within zero f = Ok (constant rationals (whole (pos 1)))
  power_within (suc zero) f = Ok f
  power_within (suc (suc n)) f = do
    p ← power_within (suc n) f
    times_within l s p f

module _ (l : Limits) (s : Signature) (names : List (List ℕ)) where
  unfoldable mutual
    -- the left side has its value first; a minus before the first term takes the term from zero
    pub expression_value : Expression → Result (Operator rationals) Cause
    expression_value (Single t) = term_value t
    expression_value (Negated t) = do
      g ← term_value t
      minus_within l zero_operator g
    expression_value (Sum e t) = do
      f ← expression_value e
      g ← term_value t
      plus_within l f g
    expression_value (Difference e t) = do
      f ← expression_value e
      g ← term_value t
      minus_within l f g

    -- the product of the factors before the last, times the last
    pub term_value : Term → Result (Operator rationals) Cause
    term_value (Alone f) = factor_value f
    term_value (Product t f) = do
      g ← term_value t
      h ← factor_value f
      times_within l s g h

    -- a power of a name is one monomial, and that of another atom is multiplied out
    pub factor_value : Factor → Result (Operator rationals) Cause
    factor_value (Bare a) = atom_value a
    factor_value (Power (Variable name) digits) = Ok (power_of_variable (variable_index names name) (digits_value 10 digits))
    factor_value (Power a digits) = do
      f ← atom_value a
      power_within l s (digits_value 10 digits) f

    -- the quotient of two numbers is one fraction, in lowest terms
    pub atom_value : Atom → Result (Operator rationals) Cause
    atom_value (Whole digits) = Ok (constant rationals (whole (pos (digits_value 10 digits))))
    atom_value (Quotient digits others) = Ok (constant rationals (reduce (pos (digits_value 10 digits)) (digits_value 10 others)))
    atom_value (Variable name) = Ok (power_of_variable (variable_index names name) 1)
    atom_value (Group e) = expression_value e
