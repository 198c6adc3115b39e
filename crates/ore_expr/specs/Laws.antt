-- The laws of texts of operators.
--     HaveValue            instructions have the value of an expression, within any limits
--     ReadsExpressions     what is read is an expression, with the value of its instructions; and each expression is read
--     FindsFaults          a fault that is found is that of the table, and the fault of the table is found
--     IsStorableTerm, IsStorable, IsPrintable    what can be printed (ore_text)
--     CanonicalIsRead      the canonical text of an operator of the signature is an expression whose value is the operator
use Rattle.std.specs.Prelude.{◌≡◌, ℕ, List}
use Rattle.std.specs.declared.result.Result.TheVariants.{Ok, Err}
use Rattle.ore_algebra.specs.Limits.{Limits, program}
use Rattle.ore_rational.specs.Field.{rationals}
use Rattle.ore_monomial.specs.Signature.{Signature}
use Rattle.ore_monomial.specs.LetterRule.{Operator}
use Rattle.ore_expr.specs.declared.fault.TextFault.{TextFault}
use Rattle.ore_expr.specs.declared.instruction.Instruction.{Instruction}
pub use Rattle.ore_text.specs.Printable.{IsStorableTerm, IsStorable, IsPrintable}
use Rattle.ore_expr.specs.Grammar.{Expression}
use Rattle.ore_expr.specs.Faults.{IsExpression, IsFault}
use Rattle.ore_expr.specs.Values.{expression_value}
use Rattle.ore_expr.specs.Parsing.{parse}
use Rattle.ore_expr.specs.Evaluation.{value_of}
use Rattle.ore_text.specs.CanonicalText.{operator_text}

-- the instructions have the value of the expression
abbrev pub HaveValue : List (List ℕ) → List Instruction → Expression → Type 0
HaveValue names instructions e = (l : Limits) (s : Signature) → value_of l s instructions ≡ expression_value l s names e

-- what is parsed is an expression, with the value of its instructions; and each expression is parsed so
pub record ReadsExpressions : Type 0 where
  pub found : (names : List (List ℕ)) (text : List ℕ) (p : List Instruction) → parse names text ≡ Ok p → (e : Expression) × IsExpression names text e × HaveValue names p e
  pub only : (names : List (List ℕ)) (text : List ℕ) (e : Expression) → IsExpression names text e → (p : List Instruction) × (parse names text ≡ Ok p) × HaveValue names p e

-- a fault of parsing is the fault of the text, and the fault of a text is that of its parsing
pub record FindsFaults : Type 0 where
  pub found : (names : List (List ℕ)) (text : List ℕ) (f : TextFault) → parse names text ≡ Err f → IsFault names text f
  pub only : (names : List (List ℕ)) (text : List ℕ) (f : TextFault) → IsFault names text f → parse names text ≡ Err f

-- what can be printed has a text that is an expression, and within the limits of the program its value is the operator
abbrev pub CanonicalIsRead : Type 0
CanonicalIsRead = (s : Signature) (names : List (List ℕ)) (f : Operator rationals) → IsPrintable s names f →
    (e : Expression) × IsExpression names (operator_text names s.order f) e × (expression_value program s names e ≡ Ok f)
