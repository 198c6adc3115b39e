-- The reply of a search is one: the rule allows one choice at most, so a plan comes to one answer or to one report.
--     cause_same, stop_same     a cause and a stop are known by what they are to courses
--     report_same               so is a report of a plan
--     one_reply                 the reply to a problem
--     one_search_reply          the reply to bytes
use Rattle.std.proofs.Common.{◌≡◌, inl, inr, ap, sym, ◌∙◌}
use Rattle.std.specs.declared.result.Result.TheVariants.{Ok, Err}
use Rattle.ore_algebra.specs.Limits.{program}
use Rattle.ore_course.proofs.Uniqueness.{one_report, one_answer, not_both}
use Rattle.ore_problem.specs.Problems.{System, Read, problem_of}
use Rattle.ore_cert.specs.CourseReport.{reported_as, stop_as, course_report}
use Rattle.ore_cert.specs.declared.certificate.Certificate.TheVariants.{Halted}
use Rattle.ore_cert.specs.declared.report.Cause.{Cause}
use Rattle.ore_cert.specs.declared.report.Cause.TheVariants as cause
use Rattle.ore_cert.specs.declared.report.Report.{Report}
use Rattle.ore_cert.specs.declared.report.Stop.{Stop}
use Rattle.ore_cert.specs.declared.report.Stop.TheVariants as stop
use Rattle.ore_check.specs.Reports.{program_runner, plan_course}
use Rattle.ore_report.proofs.RuleLaws.{strict}
use Rattle.ore_reply.specs.Answered.{IsReplyToRead}
use Rattle.ore_reply.specs.Replies.{Reply}
use Rattle.ore_reply.specs.declared.status.Status.TheVariants.{Done}
use Rattle.ore_commands.specs.Finding.{live_rule, halt_status, text_of, answer_text, IsSearchReply}
use Rattle.ore_commands.specs.SearchLaws.{HasOneSearchReply}
use Rattle.ore_commands.specs.ReplyOfCheck.{matrix_of}
use Rattle.ore_commands.specs.declared.search.Search.{Search}
use Rattle.ore_commands.proofs.Replays.{runner_closed}

cause_same : (c d : Cause) → reported_as c ≡ reported_as d → c ≡ d
cause_same cause.Overflow cause.Overflow e = cc
cause_same cause.Overflow cause.Degree e = cc
cause_same cause.Overflow (cause.Budget n) e = cc
cause_same cause.Degree cause.Overflow e = cc
cause_same cause.Degree cause.Degree e = cc
cause_same cause.Degree (cause.Budget n) e = cc
cause_same (cause.Budget m) cause.Overflow e = cc
cause_same (cause.Budget m) cause.Degree e = cc
cause_same (cause.Budget m) (cause.Budget n) e = cc

stop_same : (a b : Stop) → stop_as a ≡ stop_as b → a ≡ b
stop_same stop.Forced stop.Forced e = cc
stop_same stop.Forced (stop.Treat i j) e = cc
stop_same stop.Forced stop.Budget e = cc
stop_same (stop.Treat i j) stop.Forced e = cc
stop_same (stop.Treat i j) (stop.Treat k l) e = cc
stop_same (stop.Treat i j) stop.Budget e = cc
stop_same stop.Budget stop.Forced e = cc
stop_same stop.Budget (stop.Treat i j) e = cc
stop_same stop.Budget stop.Budget e = cc

report_same : (r q : Report) → r.plan ≡ q.plan → course_report r ≡ course_report q → r ≡ q
report_same r q same e =
    let causes : r.cause ≡ q.cause = cause_same r.cause q.cause (ap (λ x. x.cause) e) in
    let runs : r.runs ≡ q.runs = ap (λ x. x.runs) e in
    let stops : r.stop ≡ q.stop = stop_same r.stop q.stop (ap (λ x. x.stop) e) in
    λ i. record { cause = causes i; plan = same i; runs = runs i; stop = stops i }

module _ (p : System) (search : Search) where
  one_reply : (a b : Reply) → IsSearchReply p search a → IsSearchReply p search b → a ≡ b
  one_reply a b (inl (x, f, e)) (inl (y, g, h)) =
      let s = p.signature in
      let same = one_answer (program_runner s) (live_rule s) (runner_closed s) (strict program s) search.budget (plan_course s search.plan (matrix_of p)) f.formed.0 g.formed.0 x y f.formed.1.formed f.formed.1.allowed f.formed.1.within_budget g.formed.1.formed g.formed.1.allowed g.formed.1.within_budget in
      e ∙ ap (λ z. record { status = Done; text = answer_text p search.brief search.plan z }) same.1 ∙ sym h
  one_reply a b (inl (x, f, e)) (inr (r, honest, h)) =
      let s = p.signature in
      absurd (not_both (program_runner s) (live_rule s) (runner_closed s) (strict program s) search.budget (plan_course s search.plan (matrix_of p)) f.formed.0 x (course_report r) f.formed.1.formed f.formed.1.allowed f.formed.1.within_budget honest.honest honest.within)
  one_reply a b (inr (r, honest, h)) (inl (x, f, e)) =
      let s = p.signature in
      absurd (not_both (program_runner s) (live_rule s) (runner_closed s) (strict program s) search.budget (plan_course s search.plan (matrix_of p)) f.formed.0 x (course_report r) f.formed.1.formed f.formed.1.allowed f.formed.1.within_budget honest.honest honest.within)
  one_reply a b (inr (r, honest, h)) (inr (q, other, k)) =
      let s = p.signature in
      let same = one_report (program_runner s) (live_rule s) (runner_closed s) (strict program s) search.budget (plan_course s search.plan (matrix_of p)) (course_report r) (course_report q) honest.honest honest.within other.honest other.within in
      h ∙ ap (λ (x : Report). record { status = halt_status x.cause; text = text_of p (Halted x) }) (report_same r q (honest.plan_is ∙ sym other.plan_is) same) ∙ sym k

pub one_search_reply : HasOneSearchReply
one_search_reply search bytes a b = by (problem_of bytes)
  where
    by : (read : Read System) → IsReplyToRead (λ p. IsSearchReply p search) read a → IsReplyToRead (λ p. IsSearchReply p search) read b → a ≡ b
    by (Ok p) h k = one_reply p search a b h k
    by (Err f) h k = h ∙ sym k
