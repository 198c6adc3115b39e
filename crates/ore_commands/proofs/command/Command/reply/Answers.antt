use Rattle.std.proofs.Common.{◌≡◌, IfOk, sym, subst}
use Rattle.ore_reply.specs.declared.status.Status.TheVariants.{Done}
use Rattle.ore_commands.specs.Answer.{IsTrueOf}
use Rattle.ore_commands.specs.Finding.{HoldsAnswer}
use Rattle.ore_commands.proofs.command.Command.reply.Goals as goal

pub returns-in-Search-clause-truth : goal.returns-in-Search-clause-truth
returns-in-Search-clause-truth c =
    let bytes = c.args.bytes.now in
    subst (λ self. IfOk c.search_reply.result (λ r. r.status ≡ Done → IsTrueOf self r.text.items bytes)) (sym c.in-Search.is)
    (subst (λ search. IfOk c.search_reply.result (λ r. r.status ≡ Done → HoldsAnswer search r.text.items bytes)) c.by.ensures c.search_reply.ensures.truth)

pub returns-in-AnalyseInBrief-clause-truth : goal.returns-in-AnalyseInBrief-clause-truth
returns-in-AnalyseInBrief-clause-truth c =
    let bytes = c.args.bytes.now in
    subst (λ self. IfOk c.search_reply-in-AnalyseInBrief.result (λ r. r.status ≡ Done → IsTrueOf self r.text.items bytes)) (sym c.in-AnalyseInBrief.is)
    (subst (λ search. IfOk c.search_reply-in-AnalyseInBrief.result (λ r. r.status ≡ Done → HoldsAnswer search r.text.items bytes)) c.in_brief.ensures c.search_reply-in-AnalyseInBrief.ensures.truth)

pub returns-in-AnalyseWithin-clause-truth : goal.returns-in-AnalyseWithin-clause-truth
returns-in-AnalyseWithin-clause-truth c =
    let bytes = c.args.bytes.now in
    subst (λ self. IfOk c.search_reply-in-AnalyseWithin.result (λ r. r.status ≡ Done → IsTrueOf self r.text.items bytes)) (sym c.in-AnalyseWithin.is)
    (subst (λ search. IfOk c.search_reply-in-AnalyseWithin.result (λ r. r.status ≡ Done → HoldsAnswer search r.text.items bytes)) c.within.ensures c.search_reply-in-AnalyseWithin.ensures.truth)
