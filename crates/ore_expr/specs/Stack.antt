-- The stack on which instructions are evaluated, and its operations on two operators.
--     values_of          the operators of a stack whose top stands last, the top first
--     outcome            what an operation makes of two operators, the lower one first
--     instruction_of     the instruction that asks for it
use Rattle.std.specs.Prelude.{List, map, reverse}
use Rattle.std.specs.declared.result.Result.{Result}
use Rattle.ore_algebra.specs.Limits.{Limits, Cause}
use Rattle.ore_rational.specs.Field.{rationals}
use Rattle.ore_monomial.specs.Signature.{Signature}
use Rattle.ore_monomial.specs.LetterRule.{Operator}
use Rattle.ore_ring.specs.Ordered.{Ordered}
use Rattle.ore_ring.specs.Within.{plus_within, minus_within, times_within}
use Rattle.ore_expr.specs.declared.evaluation.Operation.{Operation}
use Rattle.ore_expr.specs.declared.evaluation.Operation.TheVariants.{Sum, Difference, Product}
use Rattle.ore_expr.specs.declared.instruction.Instruction.{Instruction}
use Rattle.ore_expr.specs.declared.instruction.Instruction.TheVariants.{Add, Subtract, Multiply}

-- the stack turned round, without the orders of its operators
unfoldable pub values_of : List Ordered → List (Operator rationals)
values_of fs = reverse (map (λ f. f.sum) fs)

-- what the operation makes of the lower operator f, as its left side, and of g on top
abbrev pub outcome : Limits → Signature → Operation → Operator rationals → Operator rationals → Result (Operator rationals) Cause
outcome l s Sum f g = plus_within l f g
outcome l s Difference f g = minus_within l f g
outcome l s Product f g = times_within l s f g

-- the instruction that does this to the two operators on top
abbrev pub instruction_of : Operation → Instruction
instruction_of Sum = Add
instruction_of Difference = Subtract
instruction_of Product = Multiply
