-- The plans of inverses: a search, and then the identities of the certificate of its answer.
--     left_halts, left_found       the search for a left inverse has halted; its certificate is left to form
--     adjoint_halts, right_halts   forming the transposed adjoint has stopped; the search on it has halted
--     turning_halts, right_found   turning the answer has stopped; its certificate is left to form
--     left_is_right, right_is_right     what these plans form is right
use Rattle.std.proofs.Common.{◌≡◌, ℕ, Bool, List, length, refl, sym, ap, ◌∙◌, subst}
use Rattle.std.specs.declared.result.Result.{Result}
use Rattle.std.specs.declared.result.Result.TheVariants.{Ok, Err}
use Rattle.ore_algebra.specs.Limits.{Cause, program}
use Rattle.ore_course.specs.Choices.{Runner}
use Rattle.ore_course.specs.Course.{Done, ◌>>=◌, forced}
use Rattle.ore_course.specs.Following.{Follows}
use Rattle.ore_course.specs.Leading.{Rule}
use Rattle.ore_course.proofs.Calls.{started, worked, called}
use Rattle.ore_course.proofs.Leads.{bind_assoc}
use Rattle.ore_rational.specs.Field.{rationals}
use Rattle.ore_monomial.specs.Gives.{Fails}
use Rattle.ore_monomial.specs.Signature.{Signature}
use Rattle.ore_monomial.specs.declared.stop.RingStop.{RingStop}
use Rattle.ore_rows.specs.ReduceRows.{Reductions, AllReduce, LeavesRest}
use Rattle.ore_rows.specs.Rows.{identity_rows}
use Rattle.ore_rows.specs.BasisLeads.{BasisLeads}
use Rattle.ore_rows.specs.Stored.{OperatorMatrix, rows_of}
use Rattle.ore_rows.specs.declared.choices.Choice.{Choice}
use Rattle.ore_adjoint.specs.AdjointMatrix.{transpose_adjoint_within}
use Rattle.ore_pairs.specs.Reached.{rule_of}
use Rattle.ore_pairs.specs.Run.{RunState}
use Rattle.ore_pairs.specs.Runner.{runner_within}
use Rattle.ore_parts.specs.OfSignature.{MatrixOf}
use Rattle.ore_cert.specs.declared.certificate.Certificate.{Certificate}
use Rattle.ore_cert.specs.declared.certificate.Certificate.TheVariants.{RightInverse}
use Rattle.ore_blocks.specs.CheckBlock.{RowMatrix, row_matrix_of}
use Rattle.ore_blocks.specs.KernelCourse.{RunCourse, run_on, transposed_adjoint_within}
use Rattle.ore_blocks.proofs.Converted.{rows_count, wide_rows, rows_are_of}
use Rattle.ore_groebner.specs.Choosing.{Settings}
use Rattle.ore_groebner.specs.Courses.{FollowsTo, HaltsIn}
use Rattle.ore_groebner.specs.Halting.{halt_of}
use Rattle.ore_groebner.specs.declared.outcome.Halt.{Halt}
use Rattle.ore_groebner.specs.declared.outcome.StopAt.TheVariants.{Forced}
use Rattle.ore_groebner.proofs.EngineCalls.{work_halts, call_halts}
use Rattle.ore_syzygy.proofs.FollowedKernels.{adjoint_stop}
use Rattle.ore_check.specs.Plans.{stored, certified, reduced, inverse_left, inverse_right}
use Rattle.ore_check.specs.PlanLaws.{IsCorrect}
use Rattle.ore_check.proofs.FormedInverses.{left_ends, right_ends, right_runs, inverse_left_right, inverse_right_right}
use Rattle.ore_check.proofs.FormedResolutions.{stored_back}
use Rattle.ore_inverse.specs.Inverses.{left_certificate_of, right_certificate_of}
use Rattle.ore_inverse.specs.Search.{answer_by, left_search, found_within, turned}
use Rattle.ore_inverse.specs.declared.answer.InverseAnswer.{InverseAnswer}
use Rattle.ore_inverse.proofs.InverseAnswers.{no_left_report, no_right_report}
use Rattle.ore_blocks.proofs.TransposedAdjoints.{adjoint_gives}

module _ (s : Signature) where
  -- a search on a, and what is made of its answer, is a run, reduced unit rows, and what is made of these
  module _ (a : RowMatrix) (ends : RunState rationals → Reductions rationals → RunCourse Certificate) (behind : InverseAnswer → RunCourse Certificate)
      (ended : (last : RunState rationals) (units : Reductions rationals) → behind (answer_by s a last units) ≡ ends last units) where
    reduced_units : (last : RunState rationals) → ((forced (reduced program s a last (identity_rows rationals a.cols)) >>= (λ units. Done (answer_by s a last units))) >>= behind) ≡ (forced (reduced program s a last (identity_rows rationals a.cols)) >>= ends last)
    unfolding ◌>>=◌
    reduced_units last =
        bind_assoc (forced (reduced program s a last (identity_rows rationals a.cols))) (λ units. Done (answer_by s a last units)) behind
        ∙ ap (λ (f : Reductions rationals → RunCourse Certificate). forced (reduced program s a last (identity_rows rationals a.cols)) >>= f) (λ i units. ended last units i)

    searched : (left_search s a >>= behind) ≡ (run_on program s a >>= (λ last. forced (reduced program s a last (identity_rows rationals a.cols)) >>= ends last))
    unfolding left_search
    searched =
        bind_assoc (run_on program s a) (λ last. forced (reduced program s a last (identity_rows rationals a.cols)) >>= (λ units. Done (answer_by s a last units))) behind
        ∙ ap (λ (f : RunState rationals → RunCourse Certificate). run_on program s a >>= f) (λ i last. reduced_units last i)

  module _ (r : RowMatrix) where
    abbrev left_behind : InverseAnswer → RunCourse Certificate
    left_behind x = certified program s r (left_certificate_of x) (no_left_report x)

    left_ended : (last : RunState rationals) (units : Reductions rationals) → left_behind (answer_by s r last units) ≡ left_ends s r last units
    left_ended last (AllReduce all) = refl
    left_ended last (LeavesRest k w) = refl

    abbrev right_behind : InverseAnswer → RunCourse Certificate
    right_behind y = certified program s r (right_certificate_of y) (no_right_report y)

    formed_behind : (formed : Result RowMatrix Cause) → (forced (found_within s formed) >>= right_behind) ≡ (forced formed >>= (λ inverse. certified program s r (RightInverse (stored s inverse)) tt))
    unfolding forced ◌>>=◌
    formed_behind (Ok t) = refl
    formed_behind (Err cause) = refl

    -- a is the transposed adjoint of r
    right_ended : (a : RowMatrix) → length a.rows ≡ r.cols → (last : RunState rationals) (units : Reductions rationals) → (forced (turned s (answer_by s a last units)) >>= right_behind) ≡ right_ends s r a last units
    unfolding forced ◌>>=◌
    right_ended a count last (AllReduce all) =
        formed_behind (transposed_adjoint_within program s (row_matrix_of (stored s (record { cols = length a.rows; rows = all }))))
        ∙ ap (λ (m : RowMatrix). forced (transposed_adjoint_within program s m) >>= (λ inverse. certified program s r (RightInverse (stored s inverse)) tt))
        (stored_back s (record { cols = length a.rows; rows = all }) ∙ (λ i. record { cols = count i; rows = all }))
    right_ended a count last (LeavesRest k w) = refl

  module _ (allows : BasisLeads → List (ℕ × ℕ) → Choice → Bool) (allows_spent : BasisLeads → List (ℕ × ℕ) → Bool) where
    abbrev runner : Runner (RunState rationals) Choice
    runner = runner_within program s

    abbrev rule : Rule (RunState rationals) Choice
    rule = rule_of s allows allows_spent

    -- ---- left inverses

    module _ (r : RowMatrix) (before given : List (List Choice)) where
      left_begun : Follows runner rule (inverse_left program s r) before before (left_search s r >>= left_behind r)
      unfolding inverse_left
      left_begun = subst (λ (rest : RunCourse Certificate). Follows runner rule (inverse_left program s r) before before rest) (sym (searched r (left_ends s r) (left_behind r) (left_ended r))) (started runner rule (inverse_left program s r) before)

      pub left_halts : (settings : Settings) (halt : Halt) → HaltsIn s allows allows_spent (left_search s r) before given settings halt → HaltsIn s allows allows_spent (inverse_left program s r) before given settings halt
      left_halts settings halt h = call_halts s allows allows_spent given settings (left_search s r) (left_behind r) halt h left_begun

      pub left_found : (x : InverseAnswer) → FollowsTo s allows allows_spent (left_search s r) before given x
          → Follows runner rule (inverse_left program s r) before given (certified program s r (left_certificate_of x) (no_left_report x))
      left_found x h = called runner rule (left_search s r) x (left_behind r) h left_begun

    -- ---- right inverses

    module _ (r : OperatorMatrix) (before : List (List Choice)) where
      abbrev course : RunCourse Certificate
      course = inverse_right program s (row_matrix_of r)

      right_begun : Follows runner rule course before before (forced (transposed_adjoint_within program s (row_matrix_of r)) >>= right_runs s (row_matrix_of r))
      unfolding inverse_right
      right_begun = started runner rule course before

      pub adjoint_halts : (settings : Settings) (e : RingStop) → Fails e (transpose_adjoint_within program s r.cols (rows_of r)) → HaltsIn s allows allows_spent course before before settings (halt_of e Forced)
      adjoint_halts settings e fails = work_halts s allows allows_spent before settings (transposed_adjoint_within program s (row_matrix_of r)) (right_runs s (row_matrix_of r)) e (adjoint_stop s (row_matrix_of r) e fails) right_begun

      module _ (a : OperatorMatrix) (cols : a.cols ≡ length r.rows) (count : length a.rows ≡ r.cols) (formed : transpose_adjoint_within program s r.cols (rows_of r) ≡ Ok (rows_of a)) where
        is_formed : transposed_adjoint_within program s (row_matrix_of r) ≡ Ok (row_matrix_of a)
        is_formed = adjoint_gives s r (Ok a) cols formed

        abbrev turned_behind : InverseAnswer → RunCourse Certificate
        turned_behind x = forced (turned s x) >>= right_behind (row_matrix_of r)

        to_search : Follows runner rule course before before (left_search s (row_matrix_of a) >>= turned_behind)
        to_search =
            subst (λ (rest : RunCourse Certificate). Follows runner rule course before before rest) (sym (searched (row_matrix_of a) (right_ends s (row_matrix_of r) (row_matrix_of a)) turned_behind (right_ended (row_matrix_of r) (row_matrix_of a) (rows_count a ∙ count))))
            (subst (λ n. Follows runner rule course before before (run_on program s (row_matrix_of a) >>= (λ last. forced (reduced program s (row_matrix_of a) last (identity_rows rationals n)) >>= right_ends s (row_matrix_of r) (row_matrix_of a) last))) (rows_count r ∙ sym cols)
            (worked runner rule (transposed_adjoint_within program s (row_matrix_of r)) (row_matrix_of a) (right_runs s (row_matrix_of r)) is_formed right_begun))

        module _ (given : List (List Choice)) where
          pub right_halts : (settings : Settings) (halt : Halt) → HaltsIn s allows allows_spent (left_search s (row_matrix_of a)) before given settings halt → HaltsIn s allows allows_spent course before given settings halt
          right_halts settings halt h = call_halts s allows allows_spent given settings (left_search s (row_matrix_of a)) turned_behind halt h to_search

          module _ (x : InverseAnswer) (led : FollowsTo s allows allows_spent (left_search s (row_matrix_of a)) before given x) where
            to_turn : Follows runner rule course before given (turned_behind x)
            to_turn = called runner rule (left_search s (row_matrix_of a)) x turned_behind led to_search

            pub turning_halts : (settings : Settings) (e : RingStop) → Fails e (turned s x) → HaltsIn s allows allows_spent course before given settings (halt_of e Forced)
            turning_halts settings e fails = work_halts s allows allows_spent given settings (turned s x) (right_behind (row_matrix_of r)) e fails to_turn

            pub right_found : (y : InverseAnswer) → turned s x ≡ Ok y → Follows runner rule course before given (certified program s (row_matrix_of r) (right_certificate_of y) (no_right_report y))
            right_found y e = worked runner rule (turned s x) y (right_behind (row_matrix_of r)) e to_turn

    -- ---- what the plans form

    module _ (r : OperatorMatrix) (of : MatrixOf s r) (before given : List (List Choice)) (d : Certificate) where
      pub left_is_right : FollowsTo s allows allows_spent (inverse_left program s (row_matrix_of r)) before given d → IsCorrect s (row_matrix_of r) d
      left_is_right h = inverse_left_right s (row_matrix_of r) (wide_rows s r of) (rows_are_of s r of) h.added d h.leads

      pub right_is_right : FollowsTo s allows allows_spent (inverse_right program s (row_matrix_of r)) before given d → IsCorrect s (row_matrix_of r) d
      right_is_right h = inverse_right_right s (row_matrix_of r) (wide_rows s r of) (rows_are_of s r of) h.added d h.leads
