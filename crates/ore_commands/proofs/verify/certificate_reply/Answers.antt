use Rattle.std.proofs.Common.{◌≡◌, subst}
use Rattle.ore_cert.specs.KindWords.{kind_word}
use Rattle.ore_blocks.specs.CheckBlock.{row_matrix_of}
use Rattle.ore_check.specs.Meaning.{Means}
use Rattle.ore_problem.specs.Stored.{system_of}
use Rattle.ore_reply.specs.Replies.{valid}
use Rattle.ore_reply.specs.MadeReply.{reply_of}
use Rattle.ore_reply.specs.declared.status.Status.TheVariants.{Done}
use Rattle.ore_commands.specs.CheckedReply.{IsAnswerReply}
use Rattle.ore_commands.specs.ReplyOfCheck.{IsCheckedReply}
use Rattle.ore_commands.proofs.RepliesOfCheck.{if_ok, checked_reply_of, done_valid}
use Rattle.ore_commands.proofs.verify.certificate_reply.Goals as goal

pub returns-clause-reply : goal.returns-clause-reply
returns-clause-reply c =
    let lines = c.args.lines in
    let cert = c.args.cert.now in
    let p = system_of c.args.problem.now in
    let given = c.checked-answer.result in
    if_ok c.answer_reply.result (λ r. IsAnswerReply lines c.word.result.now given (reply_of r)) (λ r. IsCheckedReply p lines cert (reply_of r)) c.answer_reply.ensures
    (λ r h. checked_reply_of p lines cert given (reply_of r) c.checked-answer.ensures.answers (subst (λ word. IsAnswerReply lines word given (reply_of r)) c.word.ensures h))

pub returns-clause-valid : goal.returns-clause-valid
returns-clause-valid c =
    let lines = c.args.lines in
    let cert = c.args.cert.now in
    let problem = c.args.problem.now in
    let given = c.checked-answer.result in
    if_ok c.answer_reply.result (λ r. IsAnswerReply lines c.word.result.now given (reply_of r)) (λ r. r.status ≡ Done → Means problem.signature (row_matrix_of problem.matrix) cert × (r.text.items ≡ (valid (kind_word cert)).text)) c.answer_reply.ensures
    (λ r h done. let v = done_valid lines (kind_word cert) (reply_of r) given (subst (λ word. IsAnswerReply lines word given (reply_of r)) c.word.ensures h) done in (c.checked-answer.ensures.means v.0, v.1))
