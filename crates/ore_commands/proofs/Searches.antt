-- What a search by a live chooser has found, and the report of one that halted.
--     right_answer     what is found is right, and so is the answer of the plan
--     storable_answer  what is found is in range, and so is the answer
--     same_text        it has the text of the answer
--     none_treated     every budget allows no choices
--     found_replied    the reply with this text
--     is_report        the report of a halt is honest by the rule and within the budget
--     stopped_not_done     no stop is answered with Done
--     said             what is said with Done is the text of an answer that is found
--     answered         where no report is honest, the reply is an answer
use Rattle.std.proofs.Common.{◌≡◌, ◌≢◌, inl, inr, ℕ, Bool, List, [], ap, sym, subst, ◌∙◌, arith}
use Rattle.ore_algebra.specs.Limits.{program}
use Rattle.ore_course.specs.Choices.{treatment_count_in}
use Rattle.ore_course.specs.Following.{IsReportable, report_of}
use Rattle.ore_course.specs.Leading.{IsFormedBy}
use Rattle.ore_course.specs.Report.{IsHonestBy, IsWithin}
use Rattle.ore_course.proofs.Calls.{formed_within}
use Rattle.ore_monomial.specs.Signature.{Signature}
use Rattle.ore_rows.specs.declared.choices.Choice.{Choice}
use Rattle.ore_problem.specs.Accepted.{Accepted}
use Rattle.ore_problem.specs.Problems.{System}
use Rattle.ore_problem.proofs.AcceptedReads.{reads_exactly}
use Rattle.ore_cert.specs.CourseReport.{course_report}
use Rattle.ore_cert.specs.Storable.{IsStorableCertificate}
use Rattle.ore_cert.specs.declared.report.Cause.{Cause}
use Rattle.ore_cert.specs.declared.report.Cause.TheVariants as cause
use Rattle.ore_cert.specs.declared.report.Plan.{Plan}
use Rattle.ore_cert.specs.declared.report.Plan.TheVariants as plan
use Rattle.ore_cert.specs.declared.report.Report.{Report}
use Rattle.ore_blocks.specs.CheckBlock.{RowMatrix}
use Rattle.ore_blocks.specs.KernelCourse.{transposed_adjoint_within}
use Rattle.ore_groebner.specs.Choosing.{AreWithinBudget}
use Rattle.ore_groebner.specs.Courses.{halt_in_course}
use Rattle.ore_groebner.specs.declared.outcome.Halt.{Halt}
use Rattle.ore_check.specs.Plans.{AnswerOf}
use Rattle.ore_check.specs.Reports.{program_runner, plan_course, IsReportOf}
use Rattle.ore_check.proofs.FormedKernels.{formed_last, adjoint_value}
use Rattle.ore_report.specs.ChainRule.{chain_allows, chain_allows_spent}
use Rattle.ore_reply.specs.Answered.{IsReplyToRead}
use Rattle.ore_reply.specs.Replies.{Reply}
use Rattle.ore_reply.specs.declared.status.Status.TheVariants.{Done}
use Rattle.ore_commands.specs.AcceptedAnswers.{PassesCheck}
use Rattle.ore_commands.specs.Finding.{live_rule, halt_status, answer_text, found_text, IsCorrectAnswer, IsStorableAnswer, IsFoundReply, IsSearchReply, IsReplyOfSearch, HoldsAnswer, IsUnreported}
use Rattle.ore_commands.specs.Search.{IsFoundOf, IsFoundBy, IsReportedBy, IsCorrectFound, IsStorableFound}
use Rattle.ore_commands.specs.ReplyOfCheck.{matrix_of}
use Rattle.ore_commands.specs.declared.found.Found.{Found}
use Rattle.ore_commands.specs.declared.found.Found.TheVariants.{Certified, Transposed}
use Rattle.ore_commands.specs.declared.search.Search.{Search}
use Rattle.ore_commands.proofs.AcceptedAnswers.{passes}

-- ---- answers

module _ (s : Signature) (r : RowMatrix) where
  pub right_answer : (named : Plan) (x : AnswerOf named) (found : Found) → IsFoundOf named x found → IsCorrectFound s r named found
      → (runs : List (List Choice)) → IsFormedBy (program_runner s) (plan_course s named r) runs x → IsCorrectAnswer s r named x
  right_answer plan.Analyse x (Certified c) e right runs formed = subst (λ y. IsCorrectAnswer s r plan.Analyse y) (sym e) right
  right_answer plan.KernelLeft x (Certified c) e right runs formed = subst (λ y. IsCorrectAnswer s r plan.KernelLeft y) (sym e) right
  right_answer plan.KernelRight x (Certified c) e right runs formed = subst (λ y. IsCorrectAnswer s r plan.KernelRight y) (sym e) right
  right_answer plan.InverseLeft x (Certified c) e right runs formed = subst (λ y. IsCorrectAnswer s r plan.InverseLeft y) (sym e) right
  right_answer plan.InverseRight x (Certified c) e right runs formed = subst (λ y. IsCorrectAnswer s r plan.InverseRight y) (sym e) right
  right_answer (plan.Resolve k) x (Certified c) e right runs formed = subst (λ y. IsCorrectAnswer s r (plan.Resolve k) y) (sym e) right
  right_answer (plan.Ext k) x (Certified c) e right runs formed = subst (λ y. IsCorrectAnswer s r (plan.Ext k) y) (sym e) right
  right_answer plan.Adjoint x (Certified c) e right runs formed = absurd e
  right_answer plan.Analyse x (Transposed m) e right runs formed = absurd e
  right_answer plan.KernelLeft x (Transposed m) e right runs formed = absurd e
  right_answer plan.KernelRight x (Transposed m) e right runs formed = absurd e
  right_answer plan.InverseLeft x (Transposed m) e right runs formed = absurd e
  right_answer plan.InverseRight x (Transposed m) e right runs formed = absurd e
  right_answer (plan.Resolve k) x (Transposed m) e right runs formed = absurd e
  right_answer (plan.Ext k) x (Transposed m) e right runs formed = absurd e
  right_answer plan.Adjoint x (Transposed m) e right runs formed = adjoint_value s r x (formed_last (program_runner s) (transposed_adjoint_within program s r) runs x formed)

storable_answer : (named : Plan) (x : AnswerOf named) (found : Found) → IsFoundOf named x found → IsStorableFound found → IsStorableAnswer named x
storable_answer plan.Analyse x (Certified c) e h = subst IsStorableCertificate (sym e) h
storable_answer plan.KernelLeft x (Certified c) e h = subst IsStorableCertificate (sym e) h
storable_answer plan.KernelRight x (Certified c) e h = subst IsStorableCertificate (sym e) h
storable_answer plan.InverseLeft x (Certified c) e h = subst IsStorableCertificate (sym e) h
storable_answer plan.InverseRight x (Certified c) e h = subst IsStorableCertificate (sym e) h
storable_answer (plan.Resolve k) x (Certified c) e h = subst IsStorableCertificate (sym e) h
storable_answer (plan.Ext k) x (Certified c) e h = subst IsStorableCertificate (sym e) h
storable_answer plan.Adjoint x (Certified c) e h = absurd e
storable_answer plan.Analyse x (Transposed m) e h = absurd e
storable_answer plan.KernelLeft x (Transposed m) e h = absurd e
storable_answer plan.KernelRight x (Transposed m) e h = absurd e
storable_answer plan.InverseLeft x (Transposed m) e h = absurd e
storable_answer plan.InverseRight x (Transposed m) e h = absurd e
storable_answer (plan.Resolve k) x (Transposed m) e h = absurd e
storable_answer (plan.Ext k) x (Transposed m) e h = absurd e
storable_answer plan.Adjoint x (Transposed m) e h = tt

module _ (p : System) where
  pub same_text : (brief : Bool) (named : Plan) (x : AnswerOf named) (found : Found) → IsFoundOf named x found → found_text p brief found ≡ answer_text p brief named x
  same_text brief plan.Analyse x (Certified c) e = ap (λ y. answer_text p brief plan.Analyse y) (sym e)
  same_text brief plan.KernelLeft x (Certified c) e = ap (λ y. answer_text p brief plan.KernelLeft y) (sym e)
  same_text brief plan.KernelRight x (Certified c) e = ap (λ y. answer_text p brief plan.KernelRight y) (sym e)
  same_text brief plan.InverseLeft x (Certified c) e = ap (λ y. answer_text p brief plan.InverseLeft y) (sym e)
  same_text brief plan.InverseRight x (Certified c) e = ap (λ y. answer_text p brief plan.InverseRight y) (sym e)
  same_text brief (plan.Resolve k) x (Certified c) e = ap (λ y. answer_text p brief (plan.Resolve k) y) (sym e)
  same_text brief (plan.Ext k) x (Certified c) e = ap (λ y. answer_text p brief (plan.Ext k) y) (sym e)
  same_text brief plan.Adjoint x (Certified c) e = absurd e
  same_text brief plan.Analyse x (Transposed m) e = absurd e
  same_text brief plan.KernelLeft x (Transposed m) e = absurd e
  same_text brief plan.KernelRight x (Transposed m) e = absurd e
  same_text brief plan.InverseLeft x (Transposed m) e = absurd e
  same_text brief plan.InverseRight x (Transposed m) e = absurd e
  same_text brief (plan.Resolve k) x (Transposed m) e = absurd e
  same_text brief (plan.Ext k) x (Transposed m) e = absurd e
  same_text brief plan.Adjoint x (Transposed m) e = ap (λ y. answer_text p brief plan.Adjoint y) (sym e)

-- ---- a search

-- every budget allows no choices
pub none_treated : (budget : ℕ) → AreWithinBudget [] budget
unfolding treatment_count_in
none_treated budget = omega arith

module _ (p : System) (search : Search) (given : List (List Choice)) (within_budget : AreWithinBudget given search.budget) where
  pub found_replied : (found : Found) → IsFoundBy p.signature (matrix_of p) chain_allows chain_allows_spent search.plan [] given found → IsCorrectFound p.signature (matrix_of p) search.plan found → IsStorableFound found
      → (reply : Reply) → reply ≡ record { status = Done; text = found_text p search.brief found } → IsFoundReply p search reply
  found_replied found (x, follows, is_found) right storable reply e =
      let formed = formed_within (program_runner p.signature) (live_rule p.signature) search.budget follows within_budget in (
        x,
        record { formed = (given, formed); correct = right_answer p.signature (matrix_of p) search.plan x found is_found right given formed.formed; storable = storable_answer search.plan x found is_found storable },
        e ∙ ap (λ t. record { status = Done; text = t }) (same_text p search.brief search.plan x found is_found),
      )

module _ (p : System) (search : Search) (given : List (List Choice)) where
  pub is_report : (halt : Halt) → IsReportedBy p.signature (matrix_of p) chain_allows chain_allows_spent search.plan given search.budget halt → IsReportable (halt_in_course halt)
      → (report : Report) → report.plan ≡ search.plan → course_report report ≡ report_of given search.budget (halt_in_course halt) → IsReportOf p.signature (live_rule p.signature) search.budget search.plan (matrix_of p) report
  is_report halt reported reportable report plan_is same =
      let (honest, within) = reported reportable in
      record {
        plan_is = plan_is;
        honest = subst (IsHonestBy (program_runner p.signature) (live_rule p.signature) (plan_course p.signature search.plan (matrix_of p))) (sym same) honest;
        within = subst (IsWithin (program_runner p.signature) search.budget) (sym same) within;
      }

-- ---- what a reply says

stopped_not_done : (why : Cause) → halt_status why ≢ Done
stopped_not_done cause.Overflow e = cc
stopped_not_done cause.Degree e = cc
stopped_not_done (cause.Budget n) e = cc

module _ (search : Search) where
  pub said : (bytes : List ℕ) (p : System) (reply : Reply) → Accepted bytes p → IsSearchReply p search reply → reply.status ≡ Done → HoldsAnswer search reply.text bytes
  said bytes p reply accepted (inl (x, found, e)) done =
      let text = ap (λ (r : Reply). r.text) e in
      (p, accepted, (x, found, text), subst (PassesCheck search.brief search.plan bytes) (sym text) (passes bytes p accepted search x found))
  said bytes p reply accepted (inr (report, honest, e)) done = absurd (stopped_not_done report.cause (sym (ap (λ (r : Reply). r.status) e) ∙ done))

  pub answered : (bytes : List ℕ) (reply : Reply) → IsUnreported search bytes → IsReplyOfSearch search bytes reply → reply.status ≡ Done
  answered bytes reply (p, accepted, none) h = by reply (subst (λ r. IsReplyToRead (λ q. IsSearchReply q search) r reply) ((reads_exactly bytes p).1 accepted) h)
    where
      by : (reply : Reply) → IsSearchReply p search reply → reply.status ≡ Done
      by reply (inl (x, found, e)) = ap (λ (r : Reply). r.status) e
      by reply (inr (report, honest, e)) = absurd (none report honest)
