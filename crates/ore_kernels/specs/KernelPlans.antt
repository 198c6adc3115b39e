-- Kernels, by their side.
--     kernel_plan           the plan of the kernel on this side
--     kernel_course         what that plan does with a matrix, in order, within the limits of the program
--     IsKernelBlockOf       an exact block is that of a run for its own syzygies
--     kernel_of             the certificate of a kernel that a run on some matrix found
--     IsLeftToForm          the choices given since lead the plan to where that certificate is left to form
use Rattle.std.specs.Prelude.{◌≡◌, ℕ, Bool, List}
use Rattle.ore_algebra.specs.Limits.{program}
use Rattle.ore_course.specs.Following.{Follows}
use Rattle.ore_monomial.specs.Signature.{Signature}
use Rattle.ore_rows.specs.BasisLeads.{BasisLeads}
use Rattle.ore_rows.specs.Stored.{OperatorMatrix}
use Rattle.ore_rows.specs.declared.choices.Choice.{Choice}
use Rattle.ore_pairs.specs.Reached.{rule_of}
use Rattle.ore_pairs.specs.Runner.{runner_within}
use Rattle.ore_parts.specs.declared.block.ExactBlock.{ExactBlock}
use Rattle.ore_cert.specs.declared.certificate.Certificate.{Certificate}
use Rattle.ore_cert.specs.declared.certificate.Certificate.TheVariants as certificate
use Rattle.ore_cert.specs.declared.certificate.Side.{Side}
use Rattle.ore_cert.specs.declared.certificate.Side.TheVariants.{Left, Right}
use Rattle.ore_cert.specs.declared.report.Plan.{Plan}
use Rattle.ore_cert.specs.declared.report.Plan.TheVariants.{KernelLeft, KernelRight}
use Rattle.ore_blocks.specs.CheckBlock.{RowMatrix, row_matrix_of}
use Rattle.ore_blocks.specs.KernelCourse.{RunCourse, kernel_block}
use Rattle.ore_groebner.specs.Courses.{last_of}
use Rattle.ore_groebner.specs.Honest.{IsHonestRun}
use Rattle.ore_groebner.specs.declared.outcome.Finished.{Finished}
use Rattle.ore_check.specs.Plans.{certified, kernel_left, kernel_right}
use Rattle.ore_syzygy.specs.declared.kernel.Kernel.{Kernel}

-- as a report names it
abbrev pub kernel_plan : Side → Plan
kernel_plan Left = KernelLeft
kernel_plan Right = KernelRight

-- of the matrix of a problem
abbrev pub kernel_course : Side → Signature → RowMatrix → RunCourse Certificate
kernel_course Left s r = kernel_left program s r
kernel_course Right s r = kernel_right program s r

module _ (s : Signature) where
  -- on whatever matrix the run is
  abbrev pub IsKernelBlockOf : Finished → ExactBlock → Type 0
  IsKernelBlockOf f b = (a : OperatorMatrix) (choices : List Choice) → IsHonestRun s a choices f → b ≡ kernel_block s (row_matrix_of a) (last_of f)

  -- the generators, with the block of the run on a
  abbrev pub kernel_of : Side → Kernel → RowMatrix → Certificate
  kernel_of side k a = certificate.Kernel side k.generators (kernel_block s a (last_of k.run))

  -- the run is on some matrix, and forming the certificate is all that is left of the plan for r
  abbrev pub IsLeftToForm : (BasisLeads → List (ℕ × ℕ) → Choice → Bool) → (BasisLeads → List (ℕ × ℕ) → Bool) → Side → RowMatrix → (before given : List (List Choice)) → Kernel → Type 0
  IsLeftToForm allows allows_spent side r before given k =
      (a : OperatorMatrix) × (choices : List Choice) × IsHonestRun s a choices k.run
      × Follows (runner_within program s) (rule_of s allows allows_spent) (kernel_course side s r) before given (certified program s r (kernel_of side k (row_matrix_of a)) tt)
