-- What a search by a plan finds, and why it halts.
--     certified-correct, transposed-correct     a certificate that is found is right; the transposed adjoint is of the signature
--     certified-any                         what holds of every certificate holds of it
--     certified-found, transposed-found     the plan asked for answers it
--     certified-halts, transposed-halts     that plan halts so
--     search-reported                       the report of the halt of a search is honest
use Rattle.std.proofs.Common.{◌≡◌, ℕ, Bool, List, [], length, IfOk, IfErr, sym, ◌∙◌, subst}
use Rattle.std.specs.List.{All}
use Rattle.std.specs.declared.result.Result.{Result}
use Rattle.std.specs.declared.result.Result.TheVariants.{Ok, Err}
use Rattle.std.proofs.lemmas.List.{length-map}
use Rattle.ore_algebra.specs.Limits.{program}
use Rattle.ore_course.specs.Choices.{Runner}
use Rattle.ore_course.specs.Following.{Follows}
use Rattle.ore_course.specs.Leading.{Rule}
use Rattle.ore_course.proofs.Calls.{started, worked_last, halt_reported}
use Rattle.ore_rational.specs.Field.{rationals}
use Rattle.ore_monomial.specs.Gives.{Gives}
use Rattle.ore_monomial.specs.Signature.{Signature}
use Rattle.ore_monomial.specs.declared.stop.RingStop.{RingStop}
use Rattle.ore_ring.specs.Belongs.{AllBelong}
use Rattle.ore_rows.specs.BasisLeads.{BasisLeads}
use Rattle.ore_rows.specs.Stored.{OperatorMatrix, rows_of, sums_of}
use Rattle.ore_rows.specs.declared.choices.Choice.{Choice}
use Rattle.ore_adjoint.specs.AdjointMatrix.{transpose_adjoint_within}
use Rattle.ore_pairs.specs.Reached.{rule_of}
use Rattle.ore_pairs.specs.Run.{RunState}
use Rattle.ore_pairs.specs.Runner.{runner_within}
use Rattle.ore_cert.specs.declared.certificate.Certificate.{Certificate}
use Rattle.ore_cert.specs.declared.report.Plan.{Plan}
use Rattle.ore_cert.specs.declared.report.Plan.TheVariants as plan
use Rattle.ore_blocks.specs.CheckBlock.{RowMatrix, row_matrix_of}
use Rattle.ore_blocks.specs.KernelCourse.{transposed_adjoint_within}
use Rattle.ore_groebner.specs.Choosing.{Settings, AreWithinBudget}
use Rattle.ore_groebner.specs.Courses.{FollowsTo, halt_in_course}
use Rattle.ore_groebner.specs.declared.outcome.Halt.{Halt}
use Rattle.ore_groebner.proofs.EngineCalls.{work_halts_last}
use Rattle.ore_syzygy.proofs.FollowedKernels.{adjoint_value, adjoint_stop}
use Rattle.ore_check.specs.PlanLaws.{IsCorrect}
use Rattle.ore_check.specs.Plans.{AnswerOf, adjoint_course}
use Rattle.ore_check.specs.Reports.{program_runner, plan_course}
use Rattle.ore_commands.specs.Search.{certified_of, transposed_of, IsFoundOf, IsFoundBy, IsHaltedBy, IsReportedBy, IsOfPlan, IsCorrectFound}
use Rattle.ore_commands.proofs.Searches.{none_treated}
use Rattle.ore_commands.specs.declared.found.Found.{Found}
use Rattle.ore_commands.specs.declared.found.Found.TheVariants.{Certified}

-- a certificate as what is found
module _ (answer : Result Certificate Halt) (result : Result Found Halt) (is : result ≡ certified_of answer) where
  ok : (P : Certificate → Type 0) (Q : Found → Type 0) → ((c : Certificate) → P c → Q (Certified c)) → IfOk answer P → IfOk result Q
  ok P Q f h = subst (λ r. IfOk r Q) (sym is) (by answer h)
    where
      by : (answer : Result Certificate Halt) → IfOk answer P → IfOk (certified_of answer) Q
      by (Ok c) h = f c h
      by (Err halt) h = tt

  err : (P : Halt → Type 0) → IfErr answer P → IfErr result P
  err P h = subst (λ r. IfErr r P) (sym is) (by answer h)
    where
      by : (answer : Result Certificate Halt) → IfErr answer P → IfErr (certified_of answer) P
      by (Ok c) h = tt
      by (Err halt) h = h

  -- what holds of every certificate
  pub certified-any : (P : Certificate → Type 0) → ((c : Certificate) → P c) → IfOk answer P
  certified-any P f = by answer
    where
      by : (answer : Result Certificate Halt) → IfOk answer P
      by (Ok c) = f c
      by (Err halt) = tt

  module _ (s : Signature) (r : RowMatrix) where
    pub certified-correct : (asked named : Plan) → asked ≡ named → IfOk answer (IsCorrect s r) → IfOk answer (IsOfPlan named) → IfOk result (IsCorrectFound s r asked)
    certified-correct asked named e h k =
        subst (λ p. IfOk result (IsCorrectFound s r p)) (sym e) (ok (λ c. IsCorrect s r c × IsOfPlan named c) (IsCorrectFound s r named) (λ c right. right) (both answer h k))
      where
        both : (answer : Result Certificate Halt) → IfOk answer (IsCorrect s r) → IfOk answer (IsOfPlan named) → IfOk answer (λ c. IsCorrect s r c × IsOfPlan named c)
        both (Ok c) h k = (h, k)
        both (Err halt) h k = tt

    module _ (allows : BasisLeads → List (ℕ × ℕ) → Choice → Bool) (allows_spent : BasisLeads → List (ℕ × ℕ) → Bool) (before given : List (List Choice)) (asked named : Plan) (same : asked ≡ named) where
      pub certified-found : (of : Certificate → AnswerOf named) → ((c : Certificate) → IsFoundOf named (of c) (Certified c)) → IfOk answer (λ c. FollowsTo s allows allows_spent (plan_course s named r) before given (of c))
          → IfOk result (IsFoundBy s r allows allows_spent asked before given)
      certified-found of is_of h = subst (λ (plan : Plan). IfOk result (IsFoundBy s r allows allows_spent plan before given)) (sym same)
          (ok (λ c. FollowsTo s allows allows_spent (plan_course s named r) before given (of c)) (IsFoundBy s r allows allows_spent named before given) (λ c follows. (of c, follows, is_of c)) h)

      pub certified-halts : (settings : Settings) → IfErr answer (IsHaltedBy s r allows allows_spent named before given settings) → IfErr result (IsHaltedBy s r allows allows_spent asked before given settings)
      certified-halts settings h = err (IsHaltedBy s r allows allows_spent asked before given settings)
          (subst (λ (plan : Plan). IfErr answer (IsHaltedBy s r allows allows_spent plan before given settings)) (sym same) h)

-- the transposed adjoint
module _ (s : Signature) (allows : BasisLeads → List (ℕ × ℕ) → Choice → Bool) (allows_spent : BasisLeads → List (ℕ × ℕ) → Bool) (r : OperatorMatrix) (before : List (List Choice)) where
  abbrev runner : Runner (RunState rationals) Choice
  runner = runner_within program s

  abbrev rule : Rule (RunState rationals) Choice
  rule = rule_of s allows allows_spent

  begun : Follows runner rule (adjoint_course program s (row_matrix_of r)) before before (adjoint_course program s (row_matrix_of r))
  begun = started runner rule (adjoint_course program s (row_matrix_of r)) before

  module _ (answer : Result OperatorMatrix RingStop) (result : Result Found Halt) (is : result ≡ transposed_of answer) where
    pub transposed-correct : (asked : Plan) → IfOk answer (λ m. All (AllBelong s) m.rows) → IfOk result (IsCorrectFound s (row_matrix_of r) asked)
    transposed-correct asked h = subst (λ x. IfOk x (IsCorrectFound s (row_matrix_of r) asked)) (sym is) (by answer h)
      where
        by : (answer : Result OperatorMatrix RingStop) → IfOk answer (λ m. All (AllBelong s) m.rows) → IfOk (transposed_of answer) (IsCorrectFound s (row_matrix_of r) asked)
        by (Ok m) h = h
        by (Err stop) h = tt

    module _ (asked : Plan) (same : asked ≡ plan.Adjoint) (gives : Gives rows_of answer (transpose_adjoint_within program s r.cols (rows_of r))) where
      pub transposed-found : IfOk answer (λ m. m.cols ≡ length r.rows) → IfOk result (IsFoundBy s (row_matrix_of r) allows allows_spent asked before before)
      transposed-found cols = subst (λ (plan : Plan). IfOk result (IsFoundBy s (row_matrix_of r) allows allows_spent plan before before)) (sym same)
          (subst (λ x. IfOk x (IsFoundBy s (row_matrix_of r) allows allows_spent plan.Adjoint before before)) (sym is) (by answer gives cols))
        where
          by : (answer : Result OperatorMatrix RingStop) → Gives rows_of answer (transpose_adjoint_within program s r.cols (rows_of r)) → IfOk answer (λ m. m.cols ≡ length r.rows)
              → IfOk (transposed_of answer) (IsFoundBy s (row_matrix_of r) allows allows_spent plan.Adjoint before before)
          by (Ok m) gives cols =
              let x : RowMatrix = record { cols = length (rows_of r); rows = rows_of m } in (
                x,
                worked_last runner rule (transposed_adjoint_within program s (row_matrix_of r)) x (adjoint_value s (row_matrix_of r) (rows_of m) gives) begun,
                λ i. record { cols = (length-map r.rows sums_of ∙ sym cols) i; rows = rows_of m },
              )
          by (Err stop) gives cols = tt

      pub transposed-halts : (settings : Settings) → IfErr result (IsHaltedBy s (row_matrix_of r) allows allows_spent asked before before settings)
      transposed-halts settings = subst (λ (plan : Plan). IfErr result (IsHaltedBy s (row_matrix_of r) allows allows_spent plan before before settings)) (sym same)
          (subst (λ x. IfErr x (IsHaltedBy s (row_matrix_of r) allows allows_spent plan.Adjoint before before settings)) (sym is) (by answer gives))
        where
          by : (answer : Result OperatorMatrix RingStop) → Gives rows_of answer (transpose_adjoint_within program s r.cols (rows_of r)) → IfErr (transposed_of answer) (IsHaltedBy s (row_matrix_of r) allows allows_spent plan.Adjoint before before settings)
          by (Ok m) gives = tt
          by (Err stop) gives = work_halts_last s allows allows_spent before settings (transposed_adjoint_within program s (row_matrix_of r)) stop (adjoint_stop s (row_matrix_of r) stop gives) begun

-- a search that began with no runs
pub search-reported : (s : Signature) (r : RowMatrix) (allows : BasisLeads → List (ℕ × ℕ) → Choice → Bool) (allows_spent : BasisLeads → List (ℕ × ℕ) → Bool) (named : Plan) (before given : List (List Choice)) (old settings : Settings)
    (result : Result Found Halt) → IfErr result (IsHaltedBy s r allows allows_spent named before given settings) → (AreWithinBudget before old.budget → AreWithinBudget given settings.budget) → before ≡ []
    → IfErr result (IsReportedBy s r allows allows_spent named given settings.budget)
search-reported s r allows allows_spent named before given old settings result h within_budget start =
    halt_reported (program_runner s) (rule_of s allows allows_spent) (plan_course s named r) halt_in_course result before given settings.budget settings.replays settings.kept h start
    (within_budget (subst (λ runs. AreWithinBudget runs old.budget) (sym start) (none_treated old.budget)))
