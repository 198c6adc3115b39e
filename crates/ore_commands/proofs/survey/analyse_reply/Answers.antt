use Rattle.std.proofs.Common.{◌≡◌, IfOk, ap, subst, ◌∙◌}
use Rattle.std.specs.declared.result.Result.TheVariants.{Ok}
use Rattle.ore_problem.specs.Problems.{problem_of}
use Rattle.ore_generate.specs.Chain.{generated}
use Rattle.ore_cert.specs.declared.report.Plan.TheVariants.{Analyse}
use Rattle.ore_reply.specs.Answered.{IsReplyToRead}
use Rattle.ore_reply.specs.MadeReply.{reply_of}
use Rattle.ore_commands.specs.Finding.{search_by, IsSearchReply, IsReplyOfSearch}
use Rattle.ore_commands.proofs.survey.analyse_reply.Goals as goal

pub returns-clause-reply : goal.returns-clause-reply
returns-clause-reply c =
    let bytes = c.args.problem.now in
    let result = c.search_reply.result in
    let replied = subst (λ search. IfOk result (λ r. IsReplyOfSearch search bytes (reply_of r))) c.by.ensures c.search_reply.ensures.reply in
    let read : problem_of bytes ≡ Ok (generated c.args.number) = ap problem_of c.requires ∙ c.law_generated_is_read.ensures c.args.number in
    subst (λ x. IfOk result (λ r. IsReplyToRead (λ p. IsSearchReply p (search_by Analyse)) x (reply_of r))) read replied
