-- Budgets that are enough for a plan, whatever is chosen.
--     IsEnough          no runs of a plan treat so many pairs, and no honest report says that so many were spent
--     BudgetExists      for each plan and matrix some number is enough
use Rattle.std.specs.Prelude.{◌≡◌, ℕ, ◌<◌, List}
use Rattle.ore_algebra.specs.Limits.{unlimited}
use Rattle.ore_course.specs.Bounded.{AreRunsOf}
use Rattle.ore_course.specs.Choices.{treatment_count_in}
use Rattle.ore_rational.specs.Field.{rationals}
use Rattle.ore_monomial.specs.Signature.{Signature}
use Rattle.ore_rows.specs.Rows.{AreLong}
use Rattle.ore_rows.specs.declared.choices.Choice.{Choice}
use Rattle.ore_pairs.specs.Runner.{treats_pair, runner_within}
use Rattle.ore_cert.specs.declared.report.Cause.TheVariants.{Budget}
use Rattle.ore_cert.specs.declared.report.Plan.{Plan}
use Rattle.ore_cert.specs.declared.report.Report.{Report}
use Rattle.ore_blocks.specs.CheckBlock.{RowMatrix}
use Rattle.ore_check.specs.Plans.{course_of}
use Rattle.ore_check.specs.Reports.{IsHonestReport}

module _ (s : Signature) where
  pub record IsEnough (plan : Plan) (r : RowMatrix) (budget : ℕ) : Type 0 where
    -- over numbers and degrees of any size, all runs of the plan together treat fewer pairs
    pub exact : (runs : List (List Choice)) → AreRunsOf (runner_within unlimited s) (course_of unlimited s plan r) runs → treatment_count_in treats_pair runs < budget
    -- so do those of an honest report, within the limits of the program
    pub fewer : (report : Report) → report.plan ≡ plan → IsHonestReport s r report → treatment_count_in treats_pair report.runs < budget
    -- an honest report that a budget is spent names a smaller one
    pub unspent : (report : Report) → report.plan ≡ plan → IsHonestReport s r report → (n : ℕ) → report.cause ≡ Budget n → n < budget

  -- the matrix has an entry in each row and column, as that of every problem
  abbrev pub BudgetExists : Type 0
  BudgetExists = (plan : Plan) (r : RowMatrix) → AreLong rationals r.cols r.rows → (budget : ℕ) × IsEnough plan r budget
