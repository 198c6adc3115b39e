-- The code of a kernel's certificate follows the plan of that kernel.
--     block_is                   the block of a run for its syzygies, by unit rows that are stored
--     left_generators, right_generators     the generators as they stand in the certificate of the plan
--     left_halted, right_halted  a plan halts where its search for the kernel does
--     left_found, right_found    a kernel was found, and its certificate is left to form
--     left_with                  the same with the block that the code makes
--     right_on                   what the plans form is right
use Rattle.std.proofs.Common.{◌≡◌, ℕ, Bool, List, length, IfOk, IfErr, sym, ap, ◌∙◌, subst}
use Rattle.std.specs.List.{All}
use Rattle.std.specs.declared.result.Result.{Result}
use Rattle.std.specs.declared.result.Result.TheVariants.{Ok, Err}
use Rattle.ore_algebra.specs.Limits.{program}
use Rattle.ore_course.specs.Choices.{Runner}
use Rattle.ore_course.specs.Course.{◌>>=◌}
use Rattle.ore_course.specs.Following.{Follows}
use Rattle.ore_course.specs.Leading.{Rule}
use Rattle.ore_course.proofs.Calls.{started, called}
use Rattle.ore_rational.specs.Field.{rationals}
use Rattle.ore_monomial.specs.Signature.{Signature}
use Rattle.ore_ring.specs.Belongs.{Belongs}
use Rattle.ore_rows.specs.Rows.{identity_rows}
use Rattle.ore_rows.specs.BasisLeads.{BasisLeads}
use Rattle.ore_rows.specs.Stored.{OperatorMatrix, rows_of}
use Rattle.ore_rows.specs.declared.choices.Choice.{Choice}
use Rattle.ore_pairs.specs.Reached.{rule_of}
use Rattle.ore_pairs.specs.Run.{RunState}
use Rattle.ore_pairs.specs.Runner.{runner_within}
use Rattle.ore_parts.specs.OfSignature.{MatrixOf}
use Rattle.ore_parts.specs.declared.block.ExactBlock.{ExactBlock}
use Rattle.ore_cert.specs.declared.certificate.Certificate.{Certificate}
use Rattle.ore_cert.specs.declared.certificate.Certificate.TheVariants as certificate
use Rattle.ore_cert.specs.declared.certificate.Side.{Side}
use Rattle.ore_cert.specs.declared.certificate.Side.TheVariants.{Left, Right}
use Rattle.ore_blocks.specs.BlockOfRun.{exact_block_of}
use Rattle.ore_blocks.specs.CheckBlock.{RowMatrix, row_matrix_of}
use Rattle.ore_blocks.specs.KernelCourse.{RunCourse, RightKernel, syzygies_of, kernel_block, run_on, right_kernel}
use Rattle.ore_blocks.proofs.Converted.{rows_count, wide_rows, rows_are_of}
use Rattle.ore_groebner.specs.Choosing.{Settings}
use Rattle.ore_groebner.specs.Courses.{last_of, FollowsTo, HaltsIn}
use Rattle.ore_groebner.specs.Honest.{IsHonestRun}
use Rattle.ore_groebner.specs.declared.outcome.Finished.{Finished}
use Rattle.ore_groebner.specs.declared.outcome.Halt.{Halt}
use Rattle.ore_groebner.proofs.EngineCalls.{call_halts}
use Rattle.ore_check.specs.PlanLaws.{IsCorrect}
use Rattle.ore_check.specs.Plans.{stored, certified as forming, kernel_left, kernel_right}
use Rattle.ore_check.proofs.FormedKernels.{kernel_left_right, kernel_right_right}
use Rattle.ore_syzygy.specs.Kernels.{IsLeftKernel, IsRunOnAdjoint, right_answer}
use Rattle.ore_syzygy.specs.RunBlock.{IsExactBlockOfRun}
use Rattle.ore_syzygy.specs.declared.kernel.Kernel.{Kernel}
use Rattle.ore_syzygy.proofs.HonestBlocks.{ordered-rows}
use Rattle.ore_syzygy.proofs.RunKernels.{syzygies_width}
use Rattle.ore_kernels.specs.KernelPlans.{kernel_course, IsKernelBlockOf, IsLeftToForm}

module _ (s : Signature) where
  pub block_is : (f : Finished) (units : OperatorMatrix) → units.cols ≡ length f.syzygies.rows → rows_of units ≡ identity_rows rationals (length f.syzygies.rows)
      → (b : ExactBlock) → IsExactBlockOfRun s f units b → IsKernelBlockOf s f b
  block_is f units cols rows b h a choices honest = h a choices honest ∙ ap (λ (u : RowMatrix). exact_block_of s (row_matrix_of a) (last_of f) u) same
    where
      count : length (rows_of f.syzygies) ≡ length f.syzygies.rows
      count = rows_count f.syzygies

      same : row_matrix_of units ≡ record { cols = length (rows_of f.syzygies); rows = identity_rows rationals (length (rows_of f.syzygies)) }
      same = λ i. record { cols = (cols ∙ sym count) i; rows = (rows ∙ ap (identity_rows rationals) (sym count)) i }

  -- ---- the generators

  left_generators : (f : Finished) (a : OperatorMatrix) (choices : List Choice) → IsHonestRun s a choices f → stored s (syzygies_of (row_matrix_of a) (last_of f)) ≡ f.syzygies
  left_generators f a choices h = λ i. record { cols = sym (syzygies_width s f a choices h) i; rows = ordered-rows s f.syzygies.rows h.syzygies_of i }

  right_generators : (m : OperatorMatrix) → All (All (Belongs s)) m.rows → stored s (row_matrix_of m) ≡ m
  right_generators m of = λ i. record { cols = m.cols; rows = ordered-rows s m.rows of i }

  -- ---- the plans

  module _ (allows : BasisLeads → List (ℕ × ℕ) → Choice → Bool) (allows_spent : BasisLeads → List (ℕ × ℕ) → Bool) where
    abbrev runner : Runner (RunState rationals) Choice
    runner = runner_within program s

    abbrev rule : Rule (RunState rationals) Choice
    rule = rule_of s allows allows_spent

    module _ (r : RowMatrix) (before : List (List Choice)) where
      abbrev left_rest : RunState rationals → RunCourse Certificate
      left_rest a = forming program s r (certificate.Kernel Left (stored s (syzygies_of r a)) (kernel_block s r a)) tt

      left_begun : Follows runner rule (kernel_left program s r) before before (run_on program s r >>= left_rest)
      unfolding kernel_left
      left_begun = started runner rule (kernel_left program s r) before

      left_halts : (given : List (List Choice)) (settings : Settings) (result : Result Kernel Halt) → IfErr result (HaltsIn s allows allows_spent (run_on program s r) before given settings)
          → IfErr result (HaltsIn s allows allows_spent (kernel_left program s r) before given settings)
      left_halts given settings (Ok k) h = tt
      left_halts given settings (Err halt) h = call_halts s allows allows_spent given settings (run_on program s r) left_rest halt h left_begun

      abbrev right_rest : RightKernel → RunCourse Certificate
      right_rest k = forming program s r (certificate.Kernel Right (stored s k.generators) (kernel_block s k.adjoint k.last)) tt

      right_begun : Follows runner rule (kernel_right program s r) before before (right_kernel program s r >>= right_rest)
      unfolding kernel_right
      right_begun = started runner rule (kernel_right program s r) before

      right_halts : (given : List (List Choice)) (settings : Settings) (result : Result Kernel Halt) → IfErr result (HaltsIn s allows allows_spent (right_kernel program s r) before given settings)
          → IfErr result (HaltsIn s allows allows_spent (kernel_right program s r) before given settings)
      right_halts given settings (Ok k) h = tt
      right_halts given settings (Err halt) h = call_halts s allows allows_spent given settings (right_kernel program s r) right_rest halt h right_begun

      module _ (side : Side) (given : List (List Choice)) (settings : Settings) (result : Result Kernel Halt) where
        pub left_halted : side ≡ Left → IfErr result (HaltsIn s allows allows_spent (run_on program s r) before given settings) → IfErr result (HaltsIn s allows allows_spent (kernel_course side s r) before given settings)
        left_halted is h = subst (λ (at : Side). IfErr result (HaltsIn s allows allows_spent (kernel_course at s r) before given settings)) (sym is) (left_halts given settings result h)

        pub right_halted : side ≡ Right → IfErr result (HaltsIn s allows allows_spent (right_kernel program s r) before given settings) → IfErr result (HaltsIn s allows allows_spent (kernel_course side s r) before given settings)
        right_halted is h = subst (λ (at : Side). IfErr result (HaltsIn s allows allows_spent (kernel_course at s r) before given settings)) (sym is) (right_halts given settings result h)

    module _ (r : OperatorMatrix) (before given : List (List Choice)) (choices : List Choice) where
      left_ends : (result : Result Kernel Halt) → IfOk result (IsLeftKernel s r) → IfOk result (λ k. IsHonestRun s r choices k.run)
          → IfOk result (λ k. FollowsTo s allows allows_spent (run_on program s (row_matrix_of r)) before given (last_of k.run))
          → IfOk result (IsLeftToForm s allows allows_spent Left (row_matrix_of r) before given)
      left_ends (Ok k) kernel honest h = (
        r,
        choices,
        honest,
        subst (λ (m : OperatorMatrix). Follows runner rule (kernel_left program s (row_matrix_of r)) before given (forming program s (row_matrix_of r) (certificate.Kernel Left m (kernel_block s (row_matrix_of r) (last_of k.run))) tt))
            (left_generators k.run r choices honest ∙ sym kernel.generators)
            (called runner rule (run_on program s (row_matrix_of r)) (last_of k.run) (left_rest (row_matrix_of r) before) h (left_begun (row_matrix_of r) before)),
      )
      left_ends (Err halt) kernel honest h = tt

      right_ends : (result : Result Kernel Halt) → IfOk result (λ k. All (All (Belongs s)) k.generators.rows) → IfOk result (λ k. IsRunOnAdjoint s r choices k.run)
          → IfOk result (λ k. FollowsTo s allows allows_spent (right_kernel program s (row_matrix_of r)) before given (right_answer s r k))
          → IfOk result (IsLeftToForm s allows allows_spent Right (row_matrix_of r) before given)
      right_ends (Ok k) of (a, same, honest) h = (
        a,
        choices,
        honest,
        subst (λ (m : OperatorMatrix). Follows runner rule (kernel_right program s (row_matrix_of r)) before given (forming program s (row_matrix_of r) (certificate.Kernel Right m (kernel_block s (row_matrix_of a) (last_of k.run))) tt)) (right_generators k.generators of)
            (subst (λ (p : RowMatrix). Follows runner rule (kernel_right program s (row_matrix_of r)) before given (forming program s (row_matrix_of r) (certificate.Kernel Right (stored s (row_matrix_of k.generators)) (kernel_block s p (last_of k.run))) tt)) (sym same)
            (called runner rule (right_kernel program s (row_matrix_of r)) (right_answer s r k) (right_rest (row_matrix_of r) before) h (right_begun (row_matrix_of r) before))),
      )
      right_ends (Err halt) of honest h = tt

      module _ (side : Side) (result : Result Kernel Halt) where
        pub left_found : side ≡ Left → IfOk result (IsLeftKernel s r) → IfOk result (λ k. IsHonestRun s r choices k.run)
            → IfOk result (λ k. FollowsTo s allows allows_spent (run_on program s (row_matrix_of r)) before given (last_of k.run))
            → IfOk result (IsLeftToForm s allows allows_spent side (row_matrix_of r) before given)
        left_found is kernel honest h = subst (λ (at : Side). IfOk result (IsLeftToForm s allows allows_spent at (row_matrix_of r) before given)) (sym is) (left_ends result kernel honest h)

        pub right_found : side ≡ Right → IfOk result (λ k. All (All (Belongs s)) k.generators.rows) → IfOk result (λ k. IsRunOnAdjoint s r choices k.run)
            → IfOk result (λ k. FollowsTo s allows allows_spent (right_kernel program s (row_matrix_of r)) before given (right_answer s r k))
            → IfOk result (IsLeftToForm s allows allows_spent side (row_matrix_of r) before given)
        right_found is of honest h = subst (λ (at : Side). IfOk result (IsLeftToForm s allows allows_spent at (row_matrix_of r) before given)) (sym is) (right_ends result of honest h)

    pub left_with : (r : RowMatrix) (side : Side) (k : Kernel) (before given : List (List Choice)) → IsLeftToForm s allows allows_spent side r before given k → (block : ExactBlock) → IsKernelBlockOf s k.run block
        → Follows runner rule (kernel_course side s r) before given (forming program s r (certificate.Kernel side k.generators block) tt)
    left_with r side k before given (a, choices, honest, left) block is =
        subst (λ (b : ExactBlock). Follows runner rule (kernel_course side s r) before given (forming program s r (certificate.Kernel side k.generators b) tt)) (sym (is a choices honest)) left

    -- what a plan forms is right
    pub right_on : (side : Side) (r : OperatorMatrix) → MatrixOf s r → (before given : List (List Choice)) (c : Certificate) → FollowsTo s allows allows_spent (kernel_course side s (row_matrix_of r)) before given c → IsCorrect s (row_matrix_of r) c
    right_on Left r of before given c h = kernel_left_right s (row_matrix_of r) (wide_rows s r of) (rows_are_of s r of) h.added c h.leads
    right_on Right r of before given c h = kernel_right_right s (row_matrix_of r) (wide_rows s r of) (rows_are_of s r of) h.added c h.leads
