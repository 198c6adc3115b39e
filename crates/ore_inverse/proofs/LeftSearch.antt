-- The statements of the code that searches a left inverse of a, beside its course.
--     run_halts           the run on a has halted
--     reducing_halts      reducing the unit rows by its basis has stopped
--     all_answered        nothing is left of each
--     rest_answered       something is left of one, whose block is the answer
--     rest_of_signature   this block is of the signature
--     rest_is_first       it is the first unit row outside the row module
use Rattle.std.proofs.Common.{◌≡◌, ℕ, Bool, List, length, sym, ap, ◌∙◌, subst}
use Rattle.std.specs.declared.result.Result.{Result}
use Rattle.std.specs.declared.result.Result.TheVariants.{Ok}
use Rattle.ore_algebra.specs.Limits.{Cause, program}
use Rattle.ore_course.specs.Choices.{Runner}
use Rattle.ore_course.specs.Course.{Done, ◌>>=◌, forced}
use Rattle.ore_course.specs.Following.{Follows}
use Rattle.ore_course.specs.Leading.{Rule}
use Rattle.ore_course.proofs.Calls.{started, worked, called}
use Rattle.ore_rational.specs.Field.{rationals}
use Rattle.ore_monomial.specs.Gives.{Fails}
use Rattle.ore_monomial.specs.Signature.{Signature}
use Rattle.ore_monomial.specs.declared.stop.RingStop.{RingStop}
use Rattle.ore_rows.specs.Arithmetic.{within}
use Rattle.ore_rows.specs.ReduceRows.{Reductions, LeavesRest, AllReduce, reduce_rows}
use Rattle.ore_rows.specs.Rows.{identity_rows}
use Rattle.ore_rows.specs.BasisLeads.{BasisLeads}
use Rattle.ore_rows.specs.Stored.{OperatorMatrix, rows_of}
use Rattle.ore_rows.specs.StoredBasis.{monics}
use Rattle.ore_rows.specs.declared.choices.Choice.{Choice}
use Rattle.ore_division.specs.StoredWork.{work_of}
use Rattle.ore_division.specs.declared.division.Reduced.{Reduced}
use Rattle.ore_pairs.specs.Reached.{rule_of}
use Rattle.ore_pairs.specs.Run.{RunState}
use Rattle.ore_pairs.specs.Runner.{runner_within}
use Rattle.ore_parts.specs.OfSignature.{IsOutsideOf}
use Rattle.ore_parts.specs.declared.block.OutsideBlock.{OutsideBlock}
use Rattle.ore_blocks.specs.CheckBlock.{row_matrix_of}
use Rattle.ore_blocks.specs.KernelCourse.{RunCourse, run_on}
use Rattle.ore_blocks.proofs.Converted.{rows_count, wide_rows, rows_are_of}
use Rattle.ore_groebner.specs.Choosing.{Settings}
use Rattle.ore_groebner.specs.Courses.{last_of, FollowsTo, HaltsIn}
use Rattle.ore_groebner.specs.Halting.{halt_of}
use Rattle.ore_groebner.specs.declared.outcome.Finished.{Finished}
use Rattle.ore_groebner.specs.declared.outcome.Halt.{Halt}
use Rattle.ore_groebner.specs.declared.outcome.StopAt.TheVariants.{Forced}
use Rattle.ore_groebner.proofs.EngineCalls.{work_halts, call_halts}
use Rattle.ore_syzygy.specs.RunBlock.{IsOutsideBlockOfRun}
use Rattle.ore_check.specs.Plans.{reduced}
use Rattle.ore_inverse.specs.Inverses.{IsFirstOutside}
use Rattle.ore_inverse.specs.Runs.{IsRunOn}
use Rattle.ore_inverse.specs.Search.{answer_by, left_search}
use Rattle.ore_inverse.specs.StoredReductions.{reductions_of, AreReductionsOf}
use Rattle.ore_inverse.specs.declared.answer.InverseAnswer.{InverseAnswer}
use Rattle.ore_inverse.specs.declared.answer.InverseAnswer.TheVariants.{Found, None}
use Rattle.ore_inverse.specs.declared.reductions.Reductions.{Reductions as Stored}
use Rattle.ore_inverse.specs.declared.reductions.Reductions.TheVariants as stored
use Rattle.ore_inverse.proofs.FirstOutside.{first_outside}
use Rattle.ore_inverse.proofs.FoundInverses.{stored_is, block_of_signature, all_reduce, all_of, leaves_rest}
use Rattle.ore_inverse.proofs.StoredRuns.{end_of, reduced_is}

module _ (s : Signature) (allows : BasisLeads → List (ℕ × ℕ) → Choice → Bool) (allows_spent : BasisLeads → List (ℕ × ℕ) → Bool) (a : OperatorMatrix) (before given : List (List Choice)) where
  abbrev runner : Runner (RunState rationals) Choice
  runner = runner_within program s

  abbrev rule : Rule (RunState rationals) Choice
  rule = rule_of s allows allows_spent

  abbrev course : RunCourse InverseAnswer
  course = left_search s (row_matrix_of a)

  -- what is left of it once the unit rows are reduced, and before
  abbrev ends : RunState rationals → Reductions rationals → RunCourse InverseAnswer
  ends last units = Done (answer_by s (row_matrix_of a) last units)

  abbrev behind_run : RunState rationals → RunCourse InverseAnswer
  behind_run last = forced (reduced program s (row_matrix_of a) last (identity_rows rationals a.cols)) >>= ends last

  begun : Follows runner rule course before before (run_on program s (row_matrix_of a) >>= behind_run)
  unfolding left_search
  begun = started runner rule course before

  pub run_halts : (settings : Settings) (halt : Halt) → HaltsIn s allows allows_spent (run_on program s (row_matrix_of a)) before given settings halt → HaltsIn s allows allows_spent course before given settings halt
  run_halts settings halt h = call_halts s allows allows_spent given settings (run_on program s (row_matrix_of a)) behind_run halt h begun

  -- by the basis of the run f, n unit rows are reduced
  module _ (f : Finished) (on : IsRunOn s a f) (led : FollowsTo s allows allows_spent (run_on program s (row_matrix_of a)) before given (last_of f)) (n : ℕ) (wide : n ≡ a.cols) where
    abbrev units : Result (Reductions rationals) Cause
    units = reduce_rows rationals s.order (within program s) f.basis.width (monics f.basis) (identity_rows rationals n)

    units_are : reduced program s (row_matrix_of a) (last_of f) (identity_rows rationals a.cols) ≡ units
    units_are = reduced_is s a f on (identity_rows rationals a.cols) ∙ ap (λ n. reduce_rows rationals s.order (within program s) f.basis.width (monics f.basis) (identity_rows rationals n)) (sym wide)

    to_reduce : Follows runner rule course before given (behind_run (last_of f))
    to_reduce = called runner rule (run_on program s (row_matrix_of a)) (last_of f) behind_run led begun

    pub reducing_halts : (settings : Settings) (e : RingStop) → Fails e units → HaltsIn s allows allows_spent course before given settings (halt_of e Forced)
    reducing_halts settings e fails =
        work_halts s allows allows_spent given settings (reduced program s (row_matrix_of a) (last_of f) (identity_rows rationals a.cols)) (ends (last_of f)) e
        (subst (λ (x : Result (Reductions rationals) Cause). Fails e x) (sym units_are) fails) to_reduce

    answered : (found : Reductions rationals) → units ≡ Ok found → FollowsTo s allows allows_spent course before given (answer_by s (row_matrix_of a) (last_of f) found)
    answered found e = worked runner rule (reduced program s (row_matrix_of a) (last_of f) (identity_rows rationals a.cols)) found (ends (last_of f)) (units_are ∙ e) to_reduce

    -- what the code has reduced them to
    module _ (x : Stored) (gives : units ≡ Ok (reductions_of x)) (of : AreReductionsOf s f.basis.width x) where
      pub all_answered : (m : OperatorMatrix) → x ≡ stored.AllReduce m → FollowsTo s allows allows_spent course before given (Found m)
      all_answered m is =
          let of_m = all_of s units f.basis.width x gives of m is in
          subst (λ (m : OperatorMatrix). FollowsTo s allows allows_spent course before given (Found m))
          (stored_is s m (length (rows_of a)) of_m.1 (of_m.0 ∙ on.honest.width ∙ sym (rows_count a))) (answered (AllReduce (rows_of m)) (all_reduce s units f.basis.width x gives of m is))

      -- unit row k, of which w is left
      module _ (k : ℕ) (w : Reduced) (is : x ≡ stored.LeavesRest k w) where
        left : units ≡ Ok (LeavesRest k (work_of w))
        left = leaves_rest s units f.basis.width x gives of k w is

        pub rest_answered : (b : OutsideBlock) → IsOutsideBlockOfRun s f w.steps w.row b → FollowsTo s allows allows_spent course before given (None k b)
        rest_answered b made = subst (λ (b : OutsideBlock). FollowsTo s allows allows_spent course before given (None k b)) (sym (made a on.choices on.honest)) (answered (LeavesRest k (work_of w)) left)

        pub rest_of_signature : (b : OutsideBlock) → IsOutsideBlockOfRun s f w.steps w.row b → IsOutsideOf s b
        rest_of_signature b made = block_of_signature s a f on b k (work_of w) (units_are ∙ left) (made a on.choices on.honest)

        pub rest_is_first : IsFirstOutside s (row_matrix_of a) k
        rest_is_first = first_outside s (row_matrix_of a) (wide_rows s a on.matrix_of) (rows_are_of s a on.matrix_of) (last_of f) (end_of s a f on) k (work_of w) (units_are ∙ left)
