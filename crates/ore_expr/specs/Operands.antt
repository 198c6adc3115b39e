-- The operators on the stack on which an expression is evaluated.
--     ordered_of     the operator, whichever way its terms are kept
use Rattle.ore_ring.specs.Ordered.{Ordered}
use Rattle.ore_expr.specs.declared.operand.Form.{Form}
use Rattle.ore_expr.specs.declared.operand.Form.TheVariants.{Finished, Sum}

-- both ways keep an operator and its order
abbrev pub ordered_of : Form → Ordered
ordered_of (Finished f) = f
ordered_of (Sum f) = f
