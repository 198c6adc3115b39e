-- What a search prints, `check` accepts: the certificate is right, and may be written.
--     claims_of              a valid certificate is no report
--     right_is_valid         the law
--     valid_behind           a certificate whose stored parts are in range, behind the problem
--     verdict_is_valid       so is what `analyse` finds
--     plan_passes, passes    the answer of a plan, and what is said of it
use Rattle.std.proofs.Common.{ℕ, Bool, true, false, List, [], ◌++◌, length, drop, refl, sym, ap, subst, inl}
use Rattle.std.proofs.Math.Seq.{drop-append_seam}
use Rattle.ore_course.specs.Leading.{IsFormedBy}
use Rattle.ore_monomial.specs.Signature.{Signature}
use Rattle.ore_rows.specs.declared.choices.Choice.{Choice}
use Rattle.ore_problem.specs.Lines.{raw_lines}
use Rattle.ore_problem.specs.Accepted.{Accepted}
use Rattle.ore_problem.specs.Problems.{System}
use Rattle.ore_problem.proofs.AcceptedDeclarations.{declared_same}
use Rattle.ore_problem.proofs.FrontReads.{prefix_reads_exactly}
use Rattle.ore_cert.specs.declared.certificate.Certificate.{Certificate}
use Rattle.ore_cert.specs.declared.certificate.Certificate.TheVariants.{Controllable, AutonomousElement, LeftInverse, RightInverse, NoLeftInverse, NoRightInverse, Kernel, Resolution, ExtZero, ExtNonzero, Halted}
use Rattle.ore_cert.specs.declared.report.Plan.{Plan}
use Rattle.ore_cert.specs.declared.report.Plan.TheVariants as plan
use Rattle.ore_cert.specs.KindWords.{kind_word}
use Rattle.ore_cert.specs.Storable.{IsStorableCertificate}
use Rattle.ore_cert.specs.WholeText.{certificate_text}
use Rattle.ore_blocks.specs.CheckBlock.{RowMatrix}
use Rattle.ore_check.specs.Check.{IsNoReport}
use Rattle.ore_check.specs.Layout.{line_in}
use Rattle.ore_check.specs.NonZeroSteps.{HasNonZeroSteps}
use Rattle.ore_check.specs.PlanLaws.{IsCorrect}
use Rattle.ore_check.specs.Plans.{AnswerOf}
use Rattle.ore_check.specs.Reports.{program_runner, plan_course}
use Rattle.ore_check.specs.Valid.{IsValid}
use Rattle.ore_check.proofs.NonZeroSteps.{plans_form_nonzero}
use Rattle.ore_check.proofs.WrittenRight.{right_may_be_written}
use Rattle.ore_reply.specs.Answered.{IsReplyToRead}
use Rattle.ore_reply.specs.Replies.{valid}
use Rattle.ore_commands.specs.AcceptedAnswers.{closed, PassesCheck, RightCertificateIsValid}
use Rattle.ore_commands.specs.Finding.{search_by, text_of, answer_text, IsCorrectAnswer, IsStorableAnswer, IsFound}
use Rattle.ore_commands.specs.ReplyOfCheck.{matrix_of, checked_reply, IsCertificateReply, IsReplyOfCheck}
use Rattle.ore_commands.specs.declared.search.Search.{Search}
use Rattle.ore_commands.proofs.ClosedTexts.{raw_lines-closed_append, accepted_closed}

-- ---- the law

claims_of : (s : Signature) (r : RowMatrix) (c : Certificate) → IsValid s r c → IsNoReport c
claims_of s r (Controllable q block) h = tt
claims_of s r (AutonomousElement element operator cofactor block) h = tt
claims_of s r (LeftInverse m) h = tt
claims_of s r (RightInverse m) h = tt
claims_of s r (NoLeftInverse unit block) h = tt
claims_of s r (NoRightInverse unit block) h = tt
claims_of s r (Kernel side generators block) h = tt
claims_of s r (Resolution links) h = tt
claims_of s r (ExtZero links block) h = tt
claims_of s r (ExtNonzero links element block) h = tt
claims_of s r (Halted report) h = absurd h

pub right_is_valid : RightCertificateIsValid
right_is_valid bytes p c accepted written right =
    let text = certificate_text p.names p.signature.order c in
    let front = closed bytes in
    let lines = length (raw_lines front) in
    let claims = claims_of p.signature (matrix_of p) c right.valid in
    let read = (prefix_reads_exactly (front ++ text) p (length front) lines).1
    (front, text, record { parts = refl; lines = raw_lines-closed_append bytes text; accepted = accepted_closed bytes p accepted }, refl, refl) in
    let reply = sym (ap (checked_reply (line_in c) lines (kind_word c)) (right.accepted claims)) in
    subst (λ r. IsReplyToRead (λ x. IsCertificateReply x.0 x.1.1 (drop x.1.0 (front ++ text))) r (valid (kind_word c))) (sym read)
    (inl (c, written, drop-append_seam front text, inl (claims, reply)))

-- ---- answers

module _ (bytes : List ℕ) (p : System) (accepted : Accepted bytes p) where
  valid_behind : (c : Certificate) → IsCorrect p.signature (matrix_of p) c → HasNonZeroSteps c → IsStorableCertificate c → IsReplyOfCheck (closed bytes ++ certificate_text p.names p.signature.order c) (valid (kind_word c))
  valid_behind c right number h =
      let count = declared_same [] accepted.declarations p.names p.signature.kinds accepted.declared in
      right_is_valid bytes p c accepted (right_may_be_written p.signature p.names accepted.names count (matrix_of p) c right number h) right

  pub verdict_is_valid : (c : Certificate) → IsFound p (search_by plan.Analyse) c → IsReplyOfCheck (closed bytes ++ text_of p c) (valid (kind_word c))
  verdict_is_valid c found = valid_behind c found.correct.0 ((plans_form_nonzero p.signature).analyse (matrix_of p) found.formed.0 c found.formed.1.formed) found.storable

  plan_passes : (named : Plan) (x : AnswerOf named) (runs : List (List Choice)) → IsFormedBy (program_runner p.signature) (plan_course p.signature named (matrix_of p)) runs x
      → IsCorrectAnswer p.signature (matrix_of p) named x → IsStorableAnswer named x → PassesCheck false named bytes (answer_text p false named x)
  plan_passes plan.Analyse c runs formed right h = (c, valid_behind c right.0 ((plans_form_nonzero p.signature).analyse (matrix_of p) runs c formed) h)
  plan_passes plan.KernelLeft c runs formed right h = (c, valid_behind c right.0 ((plans_form_nonzero p.signature).kernel_left (matrix_of p) runs c formed) h)
  plan_passes plan.KernelRight c runs formed right h = (c, valid_behind c right.0 ((plans_form_nonzero p.signature).kernel_right (matrix_of p) runs c formed) h)
  plan_passes plan.InverseLeft c runs formed right h = (c, valid_behind c right.0 ((plans_form_nonzero p.signature).inverse_left (matrix_of p) runs c formed) h)
  plan_passes plan.InverseRight c runs formed right h = (c, valid_behind c right.0 ((plans_form_nonzero p.signature).inverse_right (matrix_of p) runs c formed) h)
  plan_passes (plan.Resolve k) c runs formed right h = (c, valid_behind c right.0 ((plans_form_nonzero p.signature).resolve k (matrix_of p) runs c formed) h)
  plan_passes (plan.Ext k) c runs formed right h = (c, valid_behind c right.0 ((plans_form_nonzero p.signature).ext k (matrix_of p) runs c formed) h)
  plan_passes plan.Adjoint m runs formed right h = tt

  pub passes : (search : Search) (x : AnswerOf search.plan) → IsFound p search x → PassesCheck search.brief search.plan bytes (answer_text p search.brief search.plan x)
  passes search x found = by search.brief
    where
      by : (brief : Bool) → PassesCheck brief search.plan bytes (answer_text p brief search.plan x)
      by true = tt
      by false = plan_passes search.plan x found.formed.0 found.formed.1.formed found.correct found.storable
