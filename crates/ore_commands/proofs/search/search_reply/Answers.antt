use Rattle.std.proofs.Common.{◌≡◌}
use Rattle.ore_problem.proofs.AcceptedReads.{reads_exactly}
use Rattle.ore_problem.specs.Stored.{system_of}
use Rattle.ore_reply.specs.MadeReply.{reply_of}
use Rattle.ore_reply.specs.declared.status.Status.TheVariants.{Done}
use Rattle.ore_commands.specs.Finding.{IsSearchReply, HoldsAnswer}
use Rattle.ore_commands.proofs.Searches.{said}
use Rattle.ore_commands.proofs.RepliesOfCheck.{if_ok}
use Rattle.ore_commands.proofs.search.search_reply.Goals as goal

pub returns-in-Ok-clause-truth : goal.returns-in-Ok-clause-truth
returns-in-Ok-clause-truth c =
    let p = system_of c.in-Ok.problem in
    let bytes = c.args.bytes.now in
    if_ok c.problem_reply.result (λ r. IsSearchReply p c.args.search (reply_of r)) (λ r. r.status ≡ Done → HoldsAnswer c.args.search r.text.items bytes) c.problem_reply.ensures
    (λ r h done. said c.args.search bytes p (reply_of r) ((reads_exactly bytes p).0 c.in-Ok.ensures.reads) h done)
