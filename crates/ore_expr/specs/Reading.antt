-- What reading a text of an operator answers.
--     fault_in_text    a fault, but for want of memory
--     FaultReads       the fault that a call answers is that which is given
--     Reads            a call answered what a reading function gives, unless memory ran out
--     stop_fault       a cause of a stop as a fault of a text
--     IsValue          the text is an expression, and its value is this, or it stops with this cause
--     IsRead           what a text of an operator is read as, or its fault
use Rattle.std.specs.Prelude.{◌≡◌, ℕ, List}
use Rattle.std.specs.declared.option.Option.{Option}
use Rattle.std.specs.declared.option.Option.TheVariants.{None, Some}
use Rattle.std.specs.declared.result.Result.{Result}
use Rattle.std.specs.declared.result.Result.TheVariants.{Ok, Err}
use Rattle.ore_algebra.specs.Limits.{Cause, program}
use Rattle.ore_algebra.specs.Limits as cause
use Rattle.ore_algebra.specs.Results.{RefusedBy, GivesBy}
use Rattle.ore_rational.specs.Field.{rationals}
use Rattle.ore_monomial.specs.Signature.{Signature}
use Rattle.ore_monomial.specs.LetterRule.{Operator}
use Rattle.ore_monomial.specs.declared.stop.RingStop.TheVariants as stop
use Rattle.ore_ring.specs.Ordered.{Ordered}
use Rattle.ore_expr.specs.declared.fault.TextFault.{TextFault}
use Rattle.ore_expr.specs.declared.fault.TextFault.TheVariants as fault
use Rattle.ore_expr.specs.Grammar.{Expression}
use Rattle.ore_expr.specs.Faults.{IsExpression, IsFault}
use Rattle.ore_expr.specs.Values.{expression_value}

abbrev pub fault_in_text : TextFault → Option TextFault
fault_in_text (fault.Stop stop.Memory) = None
fault_in_text f = Some f

-- of want of memory it says nothing
abbrev pub FaultReads : {Y : Type 0} → TextFault → Result Y TextFault → Type 0
FaultReads = RefusedBy fault_in_text

-- a value, seen through the view, is what is given, and so is a fault but want of memory
abbrev pub Reads : {X Y : Type 0} → (X → Y) → Result X TextFault → Result Y TextFault → Type 0
Reads = GivesBy FaultReads

-- the stop of an operation that has the same cause
abbrev pub stop_fault : Cause → TextFault
stop_fault cause.Overflow = fault.Stop stop.Overflow
stop_fault cause.Degree = fault.Stop stop.Degree

-- some expression is spelled by the text and has, within the limits of the program, this value or this cause
abbrev pub IsValue : Signature → List (List ℕ) → List ℕ → Result (Operator rationals) Cause → Type 0
IsValue s names text value = (e : Expression) × IsExpression names text e × (expression_value program s names e ≡ value)

-- a value and a stop are those of the expression, and any other fault is that of the text; of want of memory it
-- says nothing
abbrev pub IsRead : Signature → List (List ℕ) → List ℕ → Result Ordered TextFault → Type 0
IsRead s names text (Ok f) = IsValue s names text (Ok f.sum)
IsRead s names text (Err (fault.Stop stop.Overflow)) = IsValue s names text (Err cause.Overflow)
IsRead s names text (Err (fault.Stop stop.Degree)) = IsValue s names text (Err cause.Degree)
IsRead s names text (Err (fault.Stop stop.Memory)) = Unit {0}
IsRead s names text (Err f) = IsFault names text f
