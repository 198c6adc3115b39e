-- Laws of the commands and of their replies to a problem.
--     CallOneCommand         words call one command
--     HasOneSearchReply      bytes have one reply to a search
--     AnswersUnreported      where no report is honest, a search has an answer
--     stopped_adjoint        the report of a transposed adjoint that stops
--     adjoint_reply          the reply of `adjoint` to a problem
--     HasOneAdjointReply     no other is its own
use Rattle.std.specs.Prelude.{◌≡◌, ℕ, Bool, List, []}
use Rattle.std.specs.declared.result.Result.TheVariants.{Ok, Err}
use Rattle.ore_algebra.specs.Limits.{Cause, program}
use Rattle.ore_problem.specs.Problems.{System}
use Rattle.ore_cert.specs.declared.certificate.Certificate.TheVariants.{Halted}
use Rattle.ore_cert.specs.declared.report.Plan.TheVariants.{Adjoint}
use Rattle.ore_cert.specs.declared.report.Report.{Report}
use Rattle.ore_cert.specs.declared.report.Stop.TheVariants.{Forced}
use Rattle.ore_blocks.specs.KernelCourse.{transposed_adjoint_within}
use Rattle.ore_check.specs.PlanLaws.{cause_word}
use Rattle.ore_reply.specs.declared.status.Status.TheVariants.{Done}
use Rattle.ore_reply.specs.Replies.{Reply}
use Rattle.ore_commands.specs.declared.command.Command.{Command}
use Rattle.ore_commands.specs.Commands.{AreWordsOfCommand}
use Rattle.ore_commands.specs.Finding.{halt_status, text_of, text_with_matrix, IsSearchReply, IsReplyOfSearch, IsUnreported}
use Rattle.ore_commands.specs.ReplyOfCheck.{matrix_of}
use Rattle.ore_commands.specs.declared.search.Search.{Search}

-- two commands that the same words call are one
abbrev pub CallOneCommand : Type 0
CallOneCommand = (words : List (List ℕ)) (c d : Command) → AreWordsOfCommand words c → AreWordsOfCommand words d → c ≡ d

-- so there is one certificate, or one report
abbrev pub HasOneSearchReply : Type 0
HasOneSearchReply = (search : Search) (bytes : List ℕ) (a b : Reply) → IsReplyOfSearch search bytes a → IsReplyOfSearch search bytes b → a ≡ b

-- the only reply to such bytes has status `Done`
abbrev pub AnswersUnreported : Type 0
AnswersUnreported = (search : Search) (bytes : List ℕ) (reply : Reply) → IsUnreported search bytes → IsReplyOfSearch search bytes reply → reply.status ≡ Done

-- the work is forced, and nothing is chosen
abbrev pub stopped_adjoint : Cause → Report
stopped_adjoint why = record { cause = cause_word why; plan = Adjoint; runs = []; stop = Forced }

-- the text of the problem with the transposed adjoint; where forming that stops, the text of its report
abbrev pub adjoint_reply : System → Reply
adjoint_reply p = elim (transposed_adjoint_within program p.signature (matrix_of p)) [
  | Ok m ↦ record { status = Done; text = text_with_matrix p m }
  | Err why ↦ record { status = halt_status (cause_word why); text = text_of p (Halted (stopped_adjoint why)) }
]

-- whatever the budget
abbrev pub HasOneAdjointReply : Type 0
HasOneAdjointReply = (budget : ℕ) (brief : Bool) (p : System) (reply : Reply) → IsSearchReply p (record { plan = Adjoint; budget = budget; brief = brief }) reply → reply ≡ adjoint_reply p
