use Rattle.std.proofs.Common.{◌≡◌, ◌-◌, length, take, drop, subst}
use Rattle.std.proofs.lemmas.List.{take_rest}
use Rattle.ore_problem.specs.Stored.{system_of}
use Rattle.ore_reply.specs.declared.status.Status.TheVariants.{Done}
use Rattle.ore_commands.specs.ReplyOfCheck.{SaysValid, HoldsCertificate}
use Rattle.ore_commands.proofs.Fronts.{front_holds}
use Rattle.ore_commands.proofs.RepliesOfCheck.{if_ok}
use Rattle.ore_commands.proofs.check.check_reply.Goals as goal

pub returns-in-Ok-clause-valid : goal.returns-in-Ok-clause-valid
returns-in-Ok-clause-valid c =
    let p = system_of c.in-Ok.problem in
    let bytes = c.args.bytes.now in
    let used = c.in-Ok.used in
    let text = take (length bytes - used) (drop used bytes) in
    if_ok c.text_reply.result (λ r. r.status ≡ Done → SaysValid p text r.text.items) (λ r. r.status ≡ Done → HoldsCertificate r.text.items bytes) c.text_reply.ensures.valid
    (λ r h d. front_holds r.text.items bytes p used c.in-Ok.lines c.in-Ok.ensures.reads (subst (λ t. SaysValid p t r.text.items) (take_rest bytes used) (h d)))
