-- The code that reads an expression, as a state of the reading.
--     parser_state      its state; the levels outside stand outermost first in the code
use Rattle.std.specs.Prelude.{reverse}
use Rattle.ore_expr.specs.declared.parser.Parser.{Parser}
use Rattle.ore_expr.specs.Parsing.{State}

-- what is due, the operations that wait, and the instructions so far
abbrev pub parser_state : Parser → State
parser_state p = record { due = p.due; level = p.level; outside = reverse p.outside.items; made = p.made.items }
