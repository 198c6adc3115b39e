-- The reply of `adjoint` to a problem.
--     reply_to             what is replied where the transposed adjoint is formed, or stops
--     one_adjoint_reply    nothing else is
use Rattle.std.proofs.Common.{inl, inr, sym, ap, subst, ◌∙◌}
use Rattle.std.specs.declared.result.Result.{Result}
use Rattle.std.specs.declared.result.Result.TheVariants.{Ok, Err}
use Rattle.ore_algebra.specs.Limits.{Cause, program}
use Rattle.ore_course.specs.Report.{IsHonest}
use Rattle.ore_problem.specs.Problems.{System}
use Rattle.ore_cert.specs.CourseReport.{course_report}
use Rattle.ore_cert.specs.declared.certificate.Certificate.TheVariants.{Halted}
use Rattle.ore_cert.specs.declared.report.Report.{Report}
use Rattle.ore_blocks.specs.CheckBlock.{RowMatrix}
use Rattle.ore_blocks.specs.KernelCourse.{transposed_adjoint_within}
use Rattle.ore_check.specs.PlanLaws.{cause_word}
use Rattle.ore_check.specs.Reports.{program_runner, plan_course}
use Rattle.ore_check.proofs.FormedKernels.{formed_last}
use Rattle.ore_check.proofs.PlanReports.{adjoint_report}
use Rattle.ore_reply.specs.declared.status.Status.TheVariants.{Done}
use Rattle.ore_reply.specs.Replies.{Reply}
use Rattle.ore_commands.specs.Finding.{halt_status, text_of, text_with_matrix}
use Rattle.ore_commands.specs.SearchLaws.{stopped_adjoint, HasOneAdjointReply}
use Rattle.ore_commands.specs.ReplyOfCheck.{matrix_of}

reply_to : System → Result RowMatrix Cause → Reply
reply_to p r = elim r [
  | Ok m ↦ record { status = Done; text = text_with_matrix p m }
  | Err why ↦ record { status = halt_status (cause_word why); text = text_of p (Halted (stopped_adjoint why)) }
]

pub one_adjoint_reply : HasOneAdjointReply
unfolding reply_to
one_adjoint_reply budget brief p reply (inl (x, found, e)) =
    e ∙ sym (ap (reply_to p) (formed_last (program_runner p.signature) (transposed_adjoint_within program p.signature (matrix_of p)) found.formed.0 x found.formed.1.formed))
one_adjoint_reply budget brief p reply (inr (report, honest, e)) =
    let s = p.signature in
    let own = subst (λ named. IsHonest (program_runner s) (plan_course s named (matrix_of p)) (course_report report)) (sym honest.plan_is) honest.honest.honest in
    let only = (adjoint_report s (matrix_of p) report honest.plan_is).0 own in
    e ∙ ap (λ (x : Report). record { status = halt_status x.cause; text = text_of p (Halted x) }) only.2 ∙ sym (ap (reply_to p) only.1)
