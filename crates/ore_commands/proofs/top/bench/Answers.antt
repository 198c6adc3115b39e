use Rattle.std.proofs.Common.{◌≡◌, ◌⊎◌, inr, subst}
use Rattle.ore_reply.specs.Answered.{IsDelivered}
use Rattle.ore_reply.specs.MadeReply.{reply_of, end_reply}
use Rattle.ore_reply.specs.declared.reply.Reply.{Reply as MadeReply}
use Rattle.ore_reply.specs.declared.status.Status.TheVariants.{WriteFault}
use Rattle.ore_commands.proofs.Completeness.{ends, reply_no_read, end_no_read}
use Rattle.ore_commands.proofs.top.bench.Goals as goal

pub returns-in_default-clause-complete : goal.returns-in_default-clause-complete
returns-in_default-clause-complete g c = λ named calls unhalted no_read no_write. absurd (c.in_default.ensures (named, calls))

pub returns-in-Ok-clause-complete : goal.returns-in-Ok-clause-complete
returns-in-Ok-clause-complete g c = λ named calls unhalted no_read no_write.
    let reply = c.in-Ok.reply in
    let old = g.K.Sink.written c.args.sink.now in
    let new = g.K.Sink.written c.respond-in-Ok.new.sink in
    let answered = subst (λ t. IsDelivered (record { status = reply.status; text = t }) c.respond-in-Ok.result old new) c.deref.ensures.value c.respond-in-Ok.ensures.answer in
    ends c.args.words.now (g.S.Source.left c.args.source.now) (g.S.Source.left c.input_reply.new.source) old new (reply_of reply) c.respond-in-Ok.result
    (inr (c.in-Some.command, c.in-Some.ensures, c.in-Ok.ensures.due)) answered
    (reply_no_read reply.status c.respond-in-Ok.result c.in-Ok.ensures.of_bytes c.respond-in-Ok.ensures.either) (λ e. no_write (c.respond-in-Ok.ensures.fault_only e)) named calls unhalted

pub returns-in-Err-clause-complete : goal.returns-in-Err-clause-complete
returns-in-Err-clause-complete g c = λ named calls unhalted no_read no_write.
    let e = c.in-Err.end in
    let result = c.respond-in-Err.result in
    let old = g.K.Sink.written c.args.sink.now in
    let new = g.K.Sink.written c.respond-in-Err.new.sink in
    let with_status = subst (λ s. IsDelivered (record { status = s; text = c.text.result.now }) result old new) c.status.ensures c.respond-in-Err.ensures.answer in
    let answered = subst (λ t. IsDelivered (record { status = (end_reply e).status; text = t }) result old new) c.text.ensures with_status in
    let either = subst (λ s. (result ≡ s) ⊎ (result ≡ WriteFault)) c.status.ensures c.respond-in-Err.ensures.either in
    let not_read = end_no_read MadeReply e (g.S.Source.faults c.args.source.now) (g.S.Source.faults c.input_reply.new.source) result c.in-Err.ensures.fault no_read either in
    ends c.args.words.now (g.S.Source.left c.args.source.now) (g.S.Source.left c.input_reply.new.source) old new (end_reply e) result
    (inr (c.in-Some.command, c.in-Some.ensures, c.in-Err.ensures.due)) answered not_read (λ f. no_write (c.respond-in-Err.ensures.fault_only f)) named calls unhalted
