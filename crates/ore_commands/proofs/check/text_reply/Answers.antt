use Rattle.std.proofs.Common.{◌≡◌, ◌+◌, inl, inr, subst}
use Rattle.std.specs.Prelude.{codes}
use Rattle.ore_parts.specs.Reading.{IsFaultOf}
use Rattle.ore_cert.specs.KindWords.{kind_word}
use Rattle.ore_cert.specs.WholeText.{IsCertificate}
use Rattle.ore_blocks.specs.CheckBlock.{row_matrix_of}
use Rattle.ore_check.specs.Meaning.{Means}
use Rattle.ore_problem.specs.Stored.{system_of}
use Rattle.ore_reply.specs.Replies.{valid, malformed_at}
use Rattle.ore_reply.specs.MadeReply.{reply_of}
use Rattle.ore_reply.specs.declared.status.Status.TheVariants.{Done}
use Rattle.ore_commands.specs.ReplyOfCheck.{IsCertificateReply, IsCheckedReply, SaysValid}
use Rattle.ore_commands.proofs.RepliesOfCheck.{if_ok, plan_written}
use Rattle.ore_commands.proofs.check.text_reply.Goals as goal

pub returns-in-Ok-clause-reply : goal.returns-in-Ok-clause-reply
returns-in-Ok-clause-reply c =
    let p = system_of c.args.problem.now in
    let cert = c.in-Ok.certificate in
    if_ok c.certificate_reply.result (λ r. IsCheckedReply p c.args.lines cert (reply_of r)) (λ r. IsCertificateReply p c.args.lines c.args.text.now (reply_of r)) c.certificate_reply.ensures.reply
    (λ r h. inl (cert, c.in-Ok.ensures.found.0, c.in-Ok.ensures.found.1, h))

pub returns-in-Ok-clause-valid : goal.returns-in-Ok-clause-valid
returns-in-Ok-clause-valid c =
    let p = c.args.problem.now in
    let cert = c.in-Ok.certificate in
    if_ok c.certificate_reply.result (λ r. r.status ≡ Done → Means p.signature (row_matrix_of p.matrix) cert × (r.text.items ≡ (valid (kind_word cert)).text)) (λ r. r.status ≡ Done → SaysValid (system_of p) c.args.text.now r.text.items) c.certificate_reply.ensures.valid
    (λ r h d. let v = h d in (cert, record { written = c.in-Ok.ensures.found.0; certificate = c.in-Ok.ensures.found.1; means = v.0 }, v.1))

pub returns-in-Err-Malformed-clause-reply : goal.returns-in-Err-Malformed-clause-reply
returns-in-Err-Malformed-clause-reply c =
    let p = system_of c.args.problem.now in
    let line = c.in-Err-Malformed.line in
    let faulty = subst (IsFaultOf (IsCertificate p.signature p.names) c.args.text.now) c.in-Err-Malformed.field-0-is c.in-Err-Malformed.ensures.faulty in
    if_ok c.malformed_at.result (λ r. reply_of r ≡ malformed_at (c.args.lines + line) (codes "certificate")) (λ r. IsCertificateReply p c.args.lines c.args.text.now (reply_of r)) c.malformed_at.ensures
    (λ r h. inr (line, faulty, h))

pub certificate_reply-requires-clause-plan : goal.certificate_reply-requires-clause-plan
certificate_reply-requires-clause-plan c =
    let p = system_of c.args.problem.now in
    plan_written p.signature p.names c.in-Ok.certificate c.in-Ok.ensures.found.0
