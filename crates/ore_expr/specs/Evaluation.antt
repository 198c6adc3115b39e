-- The instructions of an expression, and their evaluation on a stack of operators, each operation within limits.
--     expression_code, term_code, factor_code, atom_code      the instructions of each
--     IsOf             a variable of an instruction is one of the first so many, and its exponent within the limit
--     applied          the stack after an instruction; nothing happens where it has too few operators
--     top              the operator on top
--     value_of         the operator that is left on top in the end
use Rattle.std.specs.Prelude.{ℕ, ◌<◌, ◌≤◌, List, [], ◌∷◌, ◌++◌, pos}
use Rattle.std.specs.declared.result.Result.{Result}
use Rattle.std.specs.declared.result.Result.TheVariants.{Ok}
use Rattle.std.specs.Str.Parse.{digits_value}
use Rattle.ore_algebra.specs.Limits.{Limits, Cause, ◌>>=◌, fold_within}
use Rattle.ore_rational.specs.Fraction.{whole, reduce}
use Rattle.ore_rational.specs.Field.{rationals}
use Rattle.ore_monomial.specs.Signature.{Signature}
use Rattle.ore_monomial.specs.LetterRule.{Operator, constant}
use Rattle.ore_ring.specs.Within.{plus_within, minus_within, times_within}
use Rattle.ore_expr.specs.declared.instruction.Instruction.{Instruction}
use Rattle.ore_expr.specs.declared.instruction.Instruction.TheVariants as code
use Rattle.ore_expr.specs.Grammar.{Expression, Single, Negated, Sum, Difference, Term, Alone, Product, Factor, Bare, Power, Atom, Whole, Quotient, Variable, Group}
use Rattle.ore_expr.specs.Faults.{greatest_exponent}
use Rattle.ore_expr.specs.Values.{zero_operator, power_of_variable, variable_index, power_within}

module _ (names : List (List ℕ)) where
  unfoldable mutual
    -- the left side comes first; a minus before the first term takes the term from 0
    pub expression_code : Expression → List Instruction
    expression_code (Single t) = term_code t
    expression_code (Negated t) = code.Constant (whole (pos 0)) ∷ (term_code t ++ code.Subtract ∷ [])
    expression_code (Sum e t) = expression_code e ++ (term_code t ++ code.Add ∷ [])
    expression_code (Difference e t) = expression_code e ++ (term_code t ++ code.Subtract ∷ [])

    -- the factors are multiplied one after another, from the left
    pub term_code : Term → List Instruction
    term_code (Alone f) = factor_code f
    term_code (Product t f) = term_code t ++ (factor_code f ++ code.Multiply ∷ [])

    -- a power of a name is one instruction, and that of another atom raises the value of the atom
    pub factor_code : Factor → List Instruction
    factor_code (Bare a) = atom_code a
    factor_code (Power (Variable name) digits) = code.Power (variable_index names name) (digits_value 10 digits) ∷ []
    factor_code (Power a digits) = atom_code a ++ code.Raise (digits_value 10 digits) ∷ []

    -- a number, or the quotient of two, is one constant, in lowest terms
    pub atom_code : Atom → List Instruction
    atom_code (Whole digits) = code.Constant (whole (pos (digits_value 10 digits))) ∷ []
    atom_code (Quotient digits others) = code.Constant (reduce (pos (digits_value 10 digits)) (digits_value 10 others)) ∷ []
    atom_code (Variable name) = code.Power (variable_index names name) 1 ∷ []
    atom_code (Group e) = expression_code e

-- a power of a variable has its index below count, and an exponent of at most 32,767
abbrev pub IsOf : ℕ → Instruction → Type 0
IsOf count (code.Power x e) = (x < count) × (e ≤ greatest_exponent)
IsOf count instruction = Unit {0}

module _ (l : Limits) (s : Signature) where
  -- the top of the stack stands first
  unfoldable pub applied : List (Operator rationals) → Instruction → Result (List (Operator rationals)) Cause
  applied fs (code.Constant q) = Ok (constant rationals q ∷ fs)
  applied fs (code.Power x e) = Ok (power_of_variable x e ∷ fs)
  applied (g ∷ f ∷ fs) code.Add = do
    h ← plus_within l f g
    Ok (h ∷ fs)
  applied (g ∷ f ∷ fs) code.Subtract = do
    h ← minus_within l f g
    Ok (h ∷ fs)
  applied (g ∷ f ∷ fs) code.Multiply = do
    h ← times_within l s f g
    Ok (h ∷ fs)
  applied (f ∷ fs) (code.Raise n) = do
    h ← power_within l s n f
    Ok (h ∷ fs)
  applied fs instruction = Ok fs

  -- zero, where the stack is empty
  abbrev pub top : List (Operator rationals) → Operator rationals
  top [] = zero_operator
  top (f ∷ fs) = f

  -- the instructions are applied in order, the first to the empty stack
  abbrev pub value_of : List Instruction → Result (Operator rationals) Cause
  value_of instructions = do
    fs ← fold_within applied [] instructions
    Ok (top fs)
