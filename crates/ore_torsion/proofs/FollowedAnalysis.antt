-- The code that analyses a matrix r follows plan analyse.
--     first_halts, kernel_halts, second_halts     a run, or the search for the right kernel, has halted
--     reducing_halts, reduced_to                  reducing the kernel rows has stopped, or has given them reduced
--     verdict_halts, verdict_formed               the certificate that there is no torsion: an identity has stopped; or it is formed
--     element_halts, element_formed               an element is left: its search has halted, or has formed its certificate
--     operator_run_halts, operator_halts, operator_formed     the search for the operator of an element: the run has halted, an
--                                                 identity has stopped, or it has formed its certificate
--     analyse_is_right                            what the plan forms is right
use Rattle.std.proofs.Common.{◌≡◌, ℕ, Bool, List, ◌∷◌, length, refl, sym, ◌∙◌, subst}
use Rattle.std.specs.List.{All}
use Rattle.std.specs.declared.result.Result.TheVariants.{Ok, Err}
use Rattle.ore_algebra.specs.Limits.{program}
use Rattle.ore_course.specs.Choices.{Runner}
use Rattle.ore_course.specs.Course.{◌>>=◌, forced}
use Rattle.ore_course.specs.Following.{Follows}
use Rattle.ore_course.specs.Leading.{Rule}
use Rattle.ore_course.proofs.Calls.{started, worked, called, called_last}
use Rattle.ore_rational.specs.Field.{rationals}
use Rattle.ore_monomial.specs.Gives.{Fails}
use Rattle.ore_monomial.specs.Signature.{Signature}
use Rattle.ore_monomial.specs.declared.stop.RingStop.{RingStop}
use Rattle.ore_ring.specs.Belongs.{Belongs}
use Rattle.ore_ring.specs.Ordered.{Ordered}
use Rattle.ore_rows.specs.ReduceRows.{Reductions}
use Rattle.ore_rows.specs.BasisLeads.{BasisLeads}
use Rattle.ore_rows.specs.Stored.{OperatorMatrix, sums_of, rows_of}
use Rattle.ore_rows.specs.declared.choices.Choice.{Choice}
use Rattle.ore_division.specs.declared.division.Reduced.{Reduced}
use Rattle.ore_pairs.specs.Reached.{rule_of}
use Rattle.ore_pairs.specs.Run.{RunState}
use Rattle.ore_pairs.specs.Runner.{runner_within}
use Rattle.ore_parts.specs.OfSignature.{MatrixOf}
use Rattle.ore_cert.specs.declared.certificate.Certificate.{Certificate}
use Rattle.ore_cert.specs.declared.certificate.Certificate.TheVariants.{Controllable}
use Rattle.ore_blocks.specs.BlockOfRun.{exact_block_of}
use Rattle.ore_blocks.specs.CheckBlock.{RowMatrix, row_matrix_of}
use Rattle.ore_blocks.specs.KernelCourse.{RunCourse, RightKernel, run_on, right_kernel}
use Rattle.ore_blocks.proofs.Converted.{rows_count, wide_rows, rows_are_of}
use Rattle.ore_groebner.specs.Choosing.{Settings}
use Rattle.ore_groebner.specs.Courses.{last_of, FollowsTo, HaltsIn}
use Rattle.ore_groebner.specs.Halting.{halt_of}
use Rattle.ore_groebner.specs.declared.outcome.Finished.{Finished}
use Rattle.ore_groebner.specs.declared.outcome.Halt.{Halt}
use Rattle.ore_groebner.specs.declared.outcome.StopAt.TheVariants.{Forced}
use Rattle.ore_groebner.proofs.EngineCalls.{work_halts, call_halts, call_halts_last}
use Rattle.ore_check.specs.PlanLaws.{IsCorrect}
use Rattle.ore_check.specs.Plans.{IsFormed, first_nonzero, certified, reduced, autonomous_element, autonomous, analyse}
use Rattle.ore_check.proofs.FormedVerdicts.{analyse_right}
use Rattle.ore_check.proofs.LastWork.{certified_halts, certified_as}
use Rattle.ore_inverse.specs.StoredReductions.{reductions_of}
use Rattle.ore_inverse.specs.declared.reductions.Reductions.{Reductions as Stored}
use Rattle.ore_inverse.specs.declared.reductions.Reductions.TheVariants as stored_as
use Rattle.ore_inverse.proofs.FoundInverses.{stored_is}
use Rattle.ore_torsion.specs.Verdicts.{controllable_of, element_of, verdict_course}

module _ (s : Signature) (allows : BasisLeads → List (ℕ × ℕ) → Choice → Bool) (allows_spent : BasisLeads → List (ℕ × ℕ) → Bool) where
  abbrev runner : Runner (RunState rationals) Choice
  runner = runner_within program s

  abbrev rule : Rule (RunState rationals) Choice
  rule = rule_of s allows allows_spent

  -- ---- the kernel rows

  module _ (r : RowMatrix) (before : List (List Choice)) where
    abbrev after_second : RunState rationals → RowMatrix → RunState rationals → RunCourse Certificate
    after_second a q c = forced (reduced program s r a c.syzygies) >>= verdict_course s r a q c

    abbrev after_kernel : RunState rationals → RightKernel → RunCourse Certificate
    after_kernel a k = run_on program s k.generators >>= after_second a k.generators

    abbrev after_first : RunState rationals → RunCourse Certificate
    after_first a = right_kernel program s r >>= after_kernel a

    begun : Follows runner rule (analyse program s r) before before (run_on program s r >>= after_first)
    unfolding analyse
    begun = started runner rule (analyse program s r) before

    pub first_halts : (given : List (List Choice)) (settings : Settings) (halt : Halt) → HaltsIn s allows allows_spent (run_on program s r) before given settings halt → HaltsIn s allows allows_spent (analyse program s r) before given settings halt
    first_halts given settings halt h = call_halts s allows allows_spent given settings (run_on program s r) after_first halt h begun

    -- the run on r
    module _ (a : RunState rationals) (mid : List (List Choice)) (led : FollowsTo s allows allows_spent (run_on program s r) before mid a) where
      to_kernel : Follows runner rule (analyse program s r) before mid (right_kernel program s r >>= after_kernel a)
      to_kernel = called runner rule (run_on program s r) a after_first led begun

      pub kernel_halts : (given : List (List Choice)) (settings : Settings) (halt : Halt) → HaltsIn s allows allows_spent (right_kernel program s r) mid given settings halt → HaltsIn s allows allows_spent (analyse program s r) before given settings halt
      kernel_halts given settings halt h = call_halts s allows allows_spent given settings (right_kernel program s r) (after_kernel a) halt h to_kernel

      -- the right kernel
      module _ (k : RightKernel) (late : List (List Choice)) (searched : FollowsTo s allows allows_spent (right_kernel program s r) mid late k) where
        to_second : Follows runner rule (analyse program s r) before late (run_on program s k.generators >>= after_second a k.generators)
        to_second = called runner rule (right_kernel program s r) k (after_kernel a) searched to_kernel

        pub second_halts : (given : List (List Choice)) (settings : Settings) (halt : Halt) → HaltsIn s allows allows_spent (run_on program s k.generators) late given settings halt → HaltsIn s allows allows_spent (analyse program s r) before given settings halt
        second_halts given settings halt h = call_halts s allows allows_spent given settings (run_on program s k.generators) (after_second a k.generators) halt h to_second

        -- the run on its generators
        module _ (c : RunState rationals) (given : List (List Choice)) (ran : FollowsTo s allows allows_spent (run_on program s k.generators) late given c) where
          to_reduce : Follows runner rule (analyse program s r) before given (forced (reduced program s r a c.syzygies) >>= verdict_course s r a k.generators c)
          to_reduce = called runner rule (run_on program s k.generators) c (after_second a k.generators) ran to_second

          pub reducing_halts : (settings : Settings) (e : RingStop) → Fails e (reduced program s r a c.syzygies) → HaltsIn s allows allows_spent (analyse program s r) before given settings (halt_of e Forced)
          reducing_halts settings e fails = work_halts s allows allows_spent given settings (reduced program s r a c.syzygies) (verdict_course s r a k.generators c) e fails to_reduce

          pub reduced_to : (found : Reductions rationals) → reduced program s r a c.syzygies ≡ Ok found → Follows runner rule (analyse program s r) before given (verdict_course s r a k.generators c found)
          reduced_to found e = worked runner rule (reduced program s r a c.syzygies) found (verdict_course s r a k.generators c) e to_reduce

  -- ---- the verdict

  -- the run on r ends in a, and the run g is on q; its syzygies are reduced to x
  module _ (r : OperatorMatrix) (a : RunState rationals) (q : OperatorMatrix) (g : Finished) (x : Stored) (before mid : List (List Choice))
      (left : Follows runner rule (analyse program s (row_matrix_of r)) before mid (verdict_course s (row_matrix_of r) a (row_matrix_of q) (last_of g) (reductions_of x))) where
    left_as : (y : Stored) → x ≡ y → Follows runner rule (analyse program s (row_matrix_of r)) before mid (verdict_course s (row_matrix_of r) a (row_matrix_of q) (last_of g) (reductions_of y))
    left_as y is = subst (λ (y : Stored). Follows runner rule (analyse program s (row_matrix_of r)) before mid (verdict_course s (row_matrix_of r) a (row_matrix_of q) (last_of g) (reductions_of y))) is left

    -- all reduce, to these combinations
    module _ (of_q : All (All (Belongs s)) q.rows) (m : OperatorMatrix) (is : x ≡ stored_as.AllReduce m) (cols : m.cols ≡ length r.rows) where
      abbrev controllable : Certificate
      controllable = controllable_of s q g (row_matrix_of m)

      -- the code and the plan form one certificate
      left_to_form : Follows runner rule (analyse program s (row_matrix_of r)) before mid (certified program s (row_matrix_of r) controllable tt)
      left_to_form =
          subst (λ (y : OperatorMatrix × ℕ). Follows runner rule (analyse program s (row_matrix_of r)) before mid (certified program s (row_matrix_of r) (Controllable y.0 (exact_block_of s (row_matrix_of q) (last_of g) (record { cols = y.1; rows = rows_of m }))) tt))
          (λ i. (stored_is s q q.cols of_q refl i, (rows_count r ∙ sym cols) i)) (left_as (stored_as.AllReduce m) is)

      pub verdict_formed : (c : Certificate) → IsFormed s (row_matrix_of r) controllable (Ok c) → FollowsTo s allows allows_spent (analyse program s (row_matrix_of r)) before mid c
      verdict_formed c h = certified_as s allows allows_spent (analyse program s (row_matrix_of r)) before mid (row_matrix_of r) controllable tt left_to_form c h

      pub verdict_halts : (settings : Settings) (e : RingStop) → IsFormed s (row_matrix_of r) controllable (Err e) → HaltsIn s allows allows_spent (analyse program s (row_matrix_of r)) before mid settings (halt_of e Forced)
      verdict_halts settings e h = certified_halts s allows allows_spent (analyse program s (row_matrix_of r)) before mid (row_matrix_of r) controllable tt left_to_form settings e h

    -- a row is left of one: the plan goes on with the search for its operator
    module _ (k : ℕ) (w : Reduced) (is : x ≡ stored_as.LeavesRest k w) (given : List (List Choice)) where
      pub element_formed : (d : Certificate) → FollowsTo s allows allows_spent (autonomous program s (row_matrix_of r) a (sums_of w.row)) mid given d → FollowsTo s allows allows_spent (analyse program s (row_matrix_of r)) before given d
      element_formed d h = called_last runner rule (autonomous program s (row_matrix_of r) a (sums_of w.row)) d h (left_as (stored_as.LeavesRest k w) is)

      pub element_halts : (settings : Settings) (halt : Halt) → HaltsIn s allows allows_spent (autonomous program s (row_matrix_of r) a (sums_of w.row)) mid given settings halt → HaltsIn s allows allows_spent (analyse program s (row_matrix_of r)) before given settings halt
      element_halts settings halt h = call_halts_last s allows allows_spent given settings (autonomous program s (row_matrix_of r) a (sums_of w.row)) halt h (left_as (stored_as.LeavesRest k w) is)

  -- ---- the search for the operator of an element

  -- the matrix m is the row z above those of r
  module _ (r : OperatorMatrix) (f : Finished) (z : List Ordered) (m : OperatorMatrix) (same : m ≡ record { cols = r.cols; rows = z ∷ r.rows }) (before given : List (List Choice)) where
    abbrev course : RunCourse Certificate
    course = autonomous program s (row_matrix_of r) (last_of f) (sums_of z)

    abbrev ends : RunState rationals → RunCourse Certificate
    ends d = certified program s (row_matrix_of r) (autonomous_element s (row_matrix_of r) (last_of f) (sums_of z) (first_nonzero (length (rows_of r)) d.syzygies)) tt

    operator_begun : Follows runner rule course before before (run_on program s (row_matrix_of m) >>= ends)
    unfolding autonomous
    operator_begun = subst (λ (m : OperatorMatrix). Follows runner rule course before before (run_on program s (row_matrix_of m) >>= ends)) (sym same) (started runner rule course before)

    pub operator_run_halts : (settings : Settings) (halt : Halt) → HaltsIn s allows allows_spent (run_on program s (row_matrix_of m)) before given settings halt → HaltsIn s allows allows_spent course before given settings halt
    operator_run_halts settings halt h = call_halts s allows allows_spent given settings (run_on program s (row_matrix_of m)) ends halt h operator_begun

    -- the run g on m
    module _ (g : Finished) (led : FollowsTo s allows allows_spent (run_on program s (row_matrix_of m)) before given (last_of g)) where
      abbrev element : Certificate
      element = element_of s (row_matrix_of r) f z (row_matrix_of g.syzygies)

      element_left : Follows runner rule course before given (certified program s (row_matrix_of r) element tt)
      element_left = called runner rule (run_on program s (row_matrix_of m)) (last_of g) ends led operator_begun

      pub operator_formed : (c : Certificate) → IsFormed s (row_matrix_of r) element (Ok c) → FollowsTo s allows allows_spent course before given c
      operator_formed c h = certified_as s allows allows_spent course before given (row_matrix_of r) element tt element_left c h

      pub operator_halts : (settings : Settings) (e : RingStop) → IsFormed s (row_matrix_of r) element (Err e) → HaltsIn s allows allows_spent course before given settings (halt_of e Forced)
      operator_halts settings e h = certified_halts s allows allows_spent course before given (row_matrix_of r) element tt element_left settings e h

  -- ---- the plan

  pub analyse_is_right : (r : OperatorMatrix) → MatrixOf s r → (before given : List (List Choice)) (c : Certificate) → FollowsTo s allows allows_spent (analyse program s (row_matrix_of r)) before given c → IsCorrect s (row_matrix_of r) c
  analyse_is_right r of before given c h = analyse_right s (row_matrix_of r) (wide_rows s r of) (rows_are_of s r of) h.added c h.leads
