use Rattle.std.proofs.Common.{◌≡◌, refl, subst}
use Rattle.ore_course.specs.Following.{report_of}
use Rattle.ore_cert.specs.CourseReport.{course_report}
use Rattle.ore_cert.specs.declared.certificate.Certificate.TheVariants.{Halted}
use Rattle.ore_groebner.specs.Courses.{halt_in_course}
use Rattle.ore_problem.specs.Stored.{system_of}
use Rattle.ore_reply.specs.MadeReply.{reply_of}
use Rattle.ore_commands.specs.Finding.{halt_status, text_of, IsStoppedReply}
use Rattle.ore_commands.proofs.Searches.{is_report}
use Rattle.ore_commands.proofs.RepliesOfCheck.{if_ok}
use Rattle.ore_commands.proofs.search.halted_reply.Goals as goal

pub returns : goal.returns
returns c =
    let p = system_of c.args.problem.now in
    let report = c.into_report-report.result in
    let given = c.args.chooser.given in
    let same : course_report report ≡ report_of given c.args.search.budget (halt_in_course c.args.halt.now) = subst (λ b. course_report report ≡ report_of given b (halt_in_course c.args.halt.now)) c.requires.budget c.into_report-report.ensures.report in
    let honest = is_report p c.args.search given c.args.halt.now c.requires.reported (c.if-not-is_reportable.ensures.0 refl) report c.into_report-report.ensures.plan same in
    if_ok c.report_reply.result (λ r. reply_of r ≡ record { status = halt_status report.cause; text = text_of p (Halted report) }) (λ r. IsStoppedReply p c.args.search (reply_of r)) c.report_reply.ensures
    (λ r e. (report, honest, e))
