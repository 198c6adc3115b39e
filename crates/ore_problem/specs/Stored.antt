-- What contracts see of a problem, and of what reading one answers.
--     system_of         the names, the signature and the matrix, without the orders that its operators carry
--     IsProblem         the names fit the signature, and the matrix belongs to it
--     IsPrintableSystem        a problem that can be printed and read again
--     fault_in_problem  a fault, but for want of memory
--     ProblemFaultReads  the fault that a call answers is that which is given
--     ReadsProblem      a call answered what a reading function gives, unless memory ran out
use Rattle.std.specs.Prelude.{◌≡◌, ◌≤◌, ℕ, length}
use Rattle.std.specs.List.{All, AllByRecursion}
use Rattle.std.specs.declared.option.Option.{Option}
use Rattle.std.specs.declared.option.Option.TheVariants.{None, Some}
use Rattle.std.specs.declared.result.Result.{Result}
use Rattle.ore_algebra.specs.Results.{IsRefusal, GivesBy}
use Rattle.ore_ring.specs.Belongs.{Belongs}
use Rattle.ore_text.specs.Names.{AreNames}
use Rattle.ore_expr.specs.Laws.{IsPrintable}
use Rattle.ore_rows.specs.Stored.{rows_of}
use Rattle.ore_problem.specs.declared.fault.ProblemFault.{ProblemFault}
use Rattle.ore_problem.specs.declared.fault.ProblemReason.{ProblemReason}
use Rattle.ore_problem.specs.declared.fault.ProblemReason.TheVariants.{Memory}
use Rattle.ore_problem.specs.declared.problem.Problem.{Problem}
use Rattle.ore_problem.specs.Problems.{System}

-- the rows of the matrix are plain operators
abbrev pub system_of : Problem → System
system_of p = record { names = p.names; signature = p.signature; cols = p.matrix.cols; rows = rows_of p.matrix }

-- there is one name for each variable, and each entry is of the signature
pub record IsProblem (p : Problem) : Type 0 where
  pub count : length p.names ≡ length p.signature.kinds
  pub matrix : All (All (Belongs p.signature)) p.matrix.rows

-- what is printed and read again: at most 64 rows and 64 columns, each row with an entry for each column, in range
pub record IsPrintableSystem (p : System) : Type 0 where
  pub names : AreNames p.names
  pub count : length p.names ≡ length p.signature.kinds
  pub rows : length p.rows ≤ 64
  pub cols : p.cols ≤ 64
  pub lengths : AllByRecursion (λ r. length r ≡ p.cols) p.rows
  pub entries : AllByRecursion (AllByRecursion (IsPrintable p.signature p.names)) p.rows

abbrev pub fault_in_problem : ℕ → ProblemReason → Option ProblemFault
fault_in_problem line Memory = None
fault_in_problem line r = Some (record { line = line; reason = r })

-- of want of memory it says only that line 0 is named
abbrev pub ProblemFaultReads : {Y : Type 0} → ℕ → ProblemReason → Result Y ProblemFault → Type 0
ProblemFaultReads line r given = IsRefusal (line ≡ 0) (fault_in_problem line r) given

-- a value, seen through the view, is what is given, and so is a fault but want of memory
abbrev pub ReadsProblem : {X Y : Type 0} → (X → Y) → Result X ProblemFault → Result Y ProblemFault → Type 0
ReadsProblem = GivesBy (λ e given. ProblemFaultReads e.line e.reason given)
