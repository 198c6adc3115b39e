-- The code of extension modules follows what plan ext does behind the links.
--     adjoint_halts, adjoint_run_halts, adjoint_answered     a run on a transposed adjoint: this stops, the run halts or is complete
--     last_halts, before_halts     the run on that of the last matrix, or of the one before, has halted
--     reducing_halts, reduced_to   reducing the elements has stopped, or has given them reduced
--     zero_reduced, zero_found     the module is zero: what the elements are reduced to, and the certificate, which is left to form
--     element_of, outside_of, nonzero_found     it isn't: an element and its block are of the signature; the certificate
use Rattle.std.proofs.Common.{◌≡◌, ℕ, ◌-◌, Bool, List, [], length, sym, ap, ◌∙◌, subst}
use Rattle.std.specs.List.{All}
use Rattle.std.specs.declared.result.Result.{Result}
use Rattle.std.specs.declared.result.Result.TheVariants.{Ok}
use Rattle.ore_algebra.specs.Limits.{Cause, program}
use Rattle.ore_course.specs.Choices.{Runner}
use Rattle.ore_course.specs.Course.{Done, ◌>>=◌, forced}
use Rattle.ore_course.specs.Following.{Follows}
use Rattle.ore_course.specs.Leading.{Rule}
use Rattle.ore_course.proofs.Calls.{started, worked, called}
use Rattle.ore_course.proofs.Leads.{bind_assoc}
use Rattle.ore_rational.specs.Field.{rationals}
use Rattle.ore_monomial.specs.Gives.{Fails}
use Rattle.ore_monomial.specs.Signature.{Signature}
use Rattle.ore_monomial.specs.declared.stop.RingStop.{RingStop}
use Rattle.ore_ring.specs.Belongs.{Belongs}
use Rattle.ore_ring.specs.Ordered.{Ordered}
use Rattle.ore_rows.specs.Arithmetic.{within}
use Rattle.ore_rows.specs.ReduceRows.{Reductions, reduce_rows}
use Rattle.ore_rows.specs.BasisLeads.{BasisLeads}
use Rattle.ore_rows.specs.Stored.{OperatorMatrix, sums_of, rows_of}
use Rattle.ore_rows.specs.StoredBasis.{monics}
use Rattle.ore_rows.specs.declared.choices.Choice.{Choice}
use Rattle.ore_adjoint.specs.AdjointMatrix.{transpose_adjoint_within}
use Rattle.ore_division.specs.declared.division.Reduced.{Reduced}
use Rattle.ore_pairs.specs.Reached.{rule_of}
use Rattle.ore_pairs.specs.Run.{RunState}
use Rattle.ore_pairs.specs.Runner.{runner_within}
use Rattle.ore_parts.specs.OfSignature.{IsOutsideOf}
use Rattle.ore_parts.specs.declared.block.ExactBlock.{ExactBlock}
use Rattle.ore_parts.specs.declared.block.Link.{Link}
use Rattle.ore_parts.specs.declared.block.OutsideBlock.{OutsideBlock}
use Rattle.ore_cert.specs.declared.certificate.Certificate.{Certificate}
use Rattle.ore_cert.specs.declared.certificate.Certificate.TheVariants.{ExtZero, ExtNonzero}
use Rattle.ore_blocks.specs.BlockOfRun.{exact_block_of, outside_block_of}
use Rattle.ore_blocks.specs.CheckBlock.{RowMatrix, row_matrix_of}
use Rattle.ore_blocks.specs.KernelCourse.{RunCourse, run_on, transposed_adjoint_within}
use Rattle.ore_blocks.proofs.Converted.{rows_count}
use Rattle.ore_groebner.specs.Choosing.{Settings}
use Rattle.ore_groebner.specs.Courses.{last_of, FollowsTo, HaltsIn}
use Rattle.ore_groebner.specs.Halting.{halt_of}
use Rattle.ore_groebner.specs.declared.outcome.Finished.{Finished}
use Rattle.ore_groebner.specs.declared.outcome.Halt.{Halt}
use Rattle.ore_groebner.specs.declared.outcome.StopAt.TheVariants.{Forced}
use Rattle.ore_groebner.proofs.EngineCalls.{call_halts, work_halts}
use Rattle.ore_syzygy.specs.RunBlock.{IsExactBlockOfRun, IsOutsideBlockOfRun}
use Rattle.ore_syzygy.proofs.FollowedKernels.{adjoint_stop}
use Rattle.ore_syzygy.proofs.HonestBlocks.{ordered_row-sums_of}
use Rattle.ore_check.specs.InnerContracts.{matrix_before}
use Rattle.ore_check.specs.Plans.{Resolution, certified, reduced, extension_ends, extension}
use Rattle.ore_inverse.specs.Runs.{IsRunOn}
use Rattle.ore_inverse.specs.StoredReductions.{reductions_of, AreReducedSyzygies}
use Rattle.ore_inverse.specs.declared.reductions.Reductions.{Reductions as Stored}
use Rattle.ore_inverse.specs.declared.reductions.Reductions.TheVariants as stored
use Rattle.ore_inverse.proofs.StoredRuns.{reduced_is, unstepped_is}
use Rattle.ore_blocks.proofs.TransposedAdjoints.{adjoint_gives}
use Rattle.ore_resolution.specs.declared.elements.Elements.{Elements}
use Rattle.ore_resolution.specs.Stored.{resolution_of, run_on_adjoint}

module _ (s : Signature) where
  -- a run on a transposed adjoint, and what is made of both, statement by statement
  adjoint_bound : {Y : Type 0} (m : RowMatrix) (f : RowMatrix × RunState rationals → RunCourse Y) → (run_on_adjoint s m >>= f) ≡ (forced (transposed_adjoint_within program s m) >>= (λ a. run_on program s a >>= (λ last. f (a, last))))
  unfolding run_on_adjoint ◌>>=◌
  adjoint_bound {Y} m f =
      bind_assoc (forced (transposed_adjoint_within program s m)) (λ a. run_on program s a >>= (λ last. Done (a, last))) f
      ∙ ap (λ (g : RowMatrix → RunCourse Y). forced (transposed_adjoint_within program s m) >>= g) (λ i a. bind_assoc (run_on program s a) (λ last. Done (a, last)) f i)

  module _ (allows : BasisLeads → List (ℕ × ℕ) → Choice → Bool) (allows_spent : BasisLeads → List (ℕ × ℕ) → Bool) where
    abbrev runner : Runner (RunState rationals) Choice
    runner = runner_within program s

    abbrev rule : Rule (RunState rationals) Choice
    rule = rule_of s allows allows_spent

    -- ---- a run on a transposed adjoint

    module _ (m : OperatorMatrix) (before : List (List Choice)) where
      abbrev behind_adjoint : RowMatrix → RunCourse (RowMatrix × RunState rationals)
      behind_adjoint a = run_on program s a >>= (λ last. Done (a, last))

      adjoint_begun : Follows runner rule (run_on_adjoint s (row_matrix_of m)) before before (forced (transposed_adjoint_within program s (row_matrix_of m)) >>= behind_adjoint)
      unfolding run_on_adjoint
      adjoint_begun = started runner rule (run_on_adjoint s (row_matrix_of m)) before

      pub adjoint_halts : (settings : Settings) (e : RingStop) → Fails e (transpose_adjoint_within program s m.cols (rows_of m)) → HaltsIn s allows allows_spent (run_on_adjoint s (row_matrix_of m)) before before settings (halt_of e Forced)
      adjoint_halts settings e fails = work_halts s allows allows_spent before settings (transposed_adjoint_within program s (row_matrix_of m)) behind_adjoint e (adjoint_stop s (row_matrix_of m) e fails) adjoint_begun

      module _ (a : OperatorMatrix) (cols : a.cols ≡ length m.rows) (formed : transpose_adjoint_within program s m.cols (rows_of m) ≡ Ok (rows_of a)) (given : List (List Choice)) where
        to_run : Follows runner rule (run_on_adjoint s (row_matrix_of m)) before before (behind_adjoint (row_matrix_of a))
        to_run = worked runner rule (transposed_adjoint_within program s (row_matrix_of m)) (row_matrix_of a) behind_adjoint (adjoint_gives s m (Ok a) cols formed) adjoint_begun

        pub adjoint_run_halts : (settings : Settings) (halt : Halt) → HaltsIn s allows allows_spent (run_on program s (row_matrix_of a)) before given settings halt → HaltsIn s allows allows_spent (run_on_adjoint s (row_matrix_of m)) before given settings halt
        adjoint_run_halts settings halt h = call_halts s allows allows_spent given settings (run_on program s (row_matrix_of a)) (λ last. Done (row_matrix_of a, last)) halt h to_run

        pub adjoint_answered : (last : RunState rationals) → FollowsTo s allows allows_spent (run_on program s (row_matrix_of a)) before given last → FollowsTo s allows allows_spent (run_on_adjoint s (row_matrix_of m)) before given (row_matrix_of a, last)
        adjoint_answered last led = called runner rule (run_on program s (row_matrix_of a)) last (λ last. Done (row_matrix_of a, last)) led to_run

    -- ---- the elements

    module _ (r : OperatorMatrix) (ks : List Link) (start : List (List Choice)) where
      abbrev x : Resolution
      x = resolution_of r ks

      abbrev course : RunCourse Certificate
      course = extension program s (row_matrix_of r) x

      -- what is left of it behind the two runs
      abbrev behind_before : RowMatrix → RunState rationals → RowMatrix × RunState rationals → RunCourse Certificate
      behind_before last e f = forced (reduced program s f.0 f.1 e.syzygies) >>= extension_ends program s (row_matrix_of r) x last e f.0 f.1

      abbrev behind_last : RowMatrix × RunState rationals → RunCourse Certificate
      behind_last e = run_on_adjoint s x.before >>= behind_before e.0 e.1

      same_course : (run_on_adjoint s x.last >>= behind_last) ≡ course
      same_course =
          adjoint_bound x.last behind_last
          ∙ ap (λ (g : RowMatrix → RunState rationals → RunCourse Certificate). forced (transposed_adjoint_within program s x.last) >>= (λ a. run_on program s a >>= g a)) (λ i a e. adjoint_bound x.before (behind_before a e) i)

      begun : Follows runner rule course start start (run_on_adjoint s x.last >>= behind_last)
      begun = subst (λ (rest : RunCourse Certificate). Follows runner rule course start start rest) (sym same_course) (started runner rule course start)

      -- the matrix behind all n links
      module _ (n : ℕ) (count : n ≡ length ks) (mid : List (List Choice)) where
        pub last_halts : (settings : Settings) (halt : Halt) → HaltsIn s allows allows_spent (run_on_adjoint s (row_matrix_of (matrix_before r ks n))) start mid settings halt → HaltsIn s allows allows_spent course start mid settings halt
        last_halts settings halt h =
            call_halts s allows allows_spent mid settings (run_on_adjoint s x.last) behind_last halt (subst (λ n. HaltsIn s allows allows_spent (run_on_adjoint s (row_matrix_of (matrix_before r ks n))) start mid settings halt) count h) begun

        module _ (last : RowMatrix) (e : RunState rationals) (led : FollowsTo s allows allows_spent (run_on_adjoint s (row_matrix_of (matrix_before r ks n))) start mid (last, e)) (given : List (List Choice)) where
          to_before : Follows runner rule course start mid (behind_last (last, e))
          to_before = called runner rule (run_on_adjoint s x.last) (last, e) behind_last (subst (λ n. FollowsTo s allows allows_spent (run_on_adjoint s (row_matrix_of (matrix_before r ks n))) start mid (last, e)) count led) begun

          -- and the one before the last
          pub before_halts : (settings : Settings) (halt : Halt) → HaltsIn s allows allows_spent (run_on_adjoint s (row_matrix_of (matrix_before r ks (n - 1)))) mid given settings halt → HaltsIn s allows allows_spent course start given settings halt
          before_halts settings halt h =
              call_halts s allows allows_spent given settings (run_on_adjoint s x.before) (behind_before last e) halt (subst (λ n. HaltsIn s allows allows_spent (run_on_adjoint s (row_matrix_of (matrix_before r ks (n - 1)))) mid given settings halt) count h) to_before

          module _ (before : OperatorMatrix) (f : Finished) (on : IsRunOn s before f) (f_led : FollowsTo s allows allows_spent (run_on_adjoint s (row_matrix_of (matrix_before r ks (n - 1)))) mid given (row_matrix_of before, last_of f)) where
            to_reduce : Follows runner rule course start given (behind_before last e (row_matrix_of before, last_of f))
            to_reduce =
                called runner rule (run_on_adjoint s x.before) (row_matrix_of before, last_of f) (behind_before last e)
                (subst (λ n. FollowsTo s allows allows_spent (run_on_adjoint s (row_matrix_of (matrix_before r ks (n - 1)))) mid given (row_matrix_of before, last_of f)) count f_led) to_before

            abbrev work : Result (Reductions rationals) Cause
            work = reduce_rows rationals s.order (within program s) f.basis.width (monics f.basis) e.syzygies

            pub reducing_halts : (settings : Settings) (stop : RingStop) → Fails stop work → HaltsIn s allows allows_spent course start given settings (halt_of stop Forced)
            reducing_halts settings stop fails =
                work_halts s allows allows_spent given settings (reduced program s (row_matrix_of before) (last_of f) e.syzygies) (extension_ends program s (row_matrix_of r) x last e (row_matrix_of before) (last_of f)) stop
                (subst (λ (y : Result (Reductions rationals) Cause). Fails stop y) (sym (reduced_is s before f on e.syzygies)) fails) to_reduce

            pub reduced_to : (found : Reductions rationals) → work ≡ Ok found → Follows runner rule course start given (extension_ends program s (row_matrix_of r) x last e (row_matrix_of before) (last_of f) found)
            reduced_to found same = worked runner rule (reduced program s (row_matrix_of before) (last_of f) e.syzygies) found (extension_ends program s (row_matrix_of r) x last e (row_matrix_of before) (last_of f)) (reduced_is s before f on e.syzygies ∙ same) to_reduce

      -- ---- the certificate

      -- what the code has found, where the certificate is left to form
      module _ (given : List (List Choice)) (y : Elements) (on_last : IsRunOn s y.last.adjoint y.last.run) (on_before : IsRunOn s y.before.adjoint y.before.run)
          (reduced : AreReducedSyzygies s y.before.adjoint y.before.run y.last.run y.reductions)
          (left : Follows runner rule course start given (extension_ends program s (row_matrix_of r) x (row_matrix_of y.last.adjoint) (last_of y.last.run) (row_matrix_of y.before.adjoint) (last_of y.before.run) (reductions_of y.reductions))) where
        left_as : (found : Stored) → y.reductions ≡ found → Follows runner rule course start given (extension_ends program s (row_matrix_of r) x (row_matrix_of y.last.adjoint) (last_of y.last.run) (row_matrix_of y.before.adjoint) (last_of y.before.run) (reductions_of found))
        left_as found is = subst (λ (found : Stored). Follows runner rule course start given (extension_ends program s (row_matrix_of r) x (row_matrix_of y.last.adjoint) (last_of y.last.run) (row_matrix_of y.before.adjoint) (last_of y.before.run) (reductions_of found))) is left

        -- all reduce, to these combinations
        module _ (all : OperatorMatrix) (is : y.reductions ≡ stored.AllReduce all) where
          pub zero_reduced : AreReducedSyzygies s y.before.adjoint y.before.run y.last.run (stored.AllReduce all)
          zero_reduced = subst (AreReducedSyzygies s y.before.adjoint y.before.run y.last.run) is reduced

          pub zero_found : (b : ExactBlock) → IsExactBlockOfRun s y.last.run all b → Follows runner rule course start given (certified program s (row_matrix_of r) (ExtZero ks b) tt)
          zero_found b made =
              subst (λ (b : ExactBlock). Follows runner rule course start given (certified program s (row_matrix_of r) (ExtZero ks b) tt))
              (ap (λ n. exact_block_of s (row_matrix_of y.last.adjoint) (last_of y.last.run) (record { cols = n; rows = rows_of all })) (rows_count y.before.adjoint ∙ sym zero_reduced.0) ∙ sym (made y.last.adjoint on_last.choices on_last.honest))
              (left_as (stored.AllReduce all) is)

        -- w is left of one
        module _ (k : ℕ) (w : Reduced) (is : y.reductions ≡ stored.LeavesRest k w) (outside : Reduced) (row : outside.row ≡ w.row) where
          nonzero_reduced : AreReducedSyzygies s y.before.adjoint y.before.run y.last.run (stored.LeavesRest k w)
          nonzero_reduced = subst (AreReducedSyzygies s y.before.adjoint y.before.run y.last.run) is reduced

          pub element_of : All (Belongs s) outside.row
          element_of = subst (All (Belongs s)) (sym row) nonzero_reduced.1

          module _ (steps : outside.steps ≡ []) (b : OutsideBlock) (made : IsOutsideBlockOfRun s y.before.run outside.steps outside.row b) where
            block_is : b ≡ outside_block_of s (row_matrix_of y.before.adjoint) (last_of y.before.run) [] (sums_of w.row)
            block_is = unstepped_is s y.before.adjoint y.before.run on_before outside w.row row steps b made

            pub outside_of : IsOutsideOf s b
            outside_of = subst (IsOutsideOf s) (sym block_is) nonzero_reduced.2

            pub nonzero_found : Follows runner rule course start given (certified program s (row_matrix_of r) (ExtNonzero ks outside.row b) tt)
            nonzero_found =
                subst (λ (c : List Ordered × OutsideBlock). Follows runner rule course start given (certified program s (row_matrix_of r) (ExtNonzero ks c.0 c.1) tt))
                (λ i. ((ordered_row-sums_of s w.row nonzero_reduced.1 ∙ sym row) i, sym block_is i)) (left_as (stored.LeavesRest k w) is)
