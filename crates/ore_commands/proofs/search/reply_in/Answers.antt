use Rattle.std.proofs.Common.{◌≡◌, inl, [], ap, sym, subst, ◌∙◌}
use Rattle.ore_blocks.specs.CheckBlock.{row_matrix_of}
use Rattle.ore_groebner.specs.Choosing.{AreWithinBudget}
use Rattle.ore_problem.specs.Stored.{system_of}
use Rattle.ore_reply.specs.MadeReply.{reply_of}
use Rattle.ore_reply.specs.declared.status.Status.TheVariants.{Done}
use Rattle.ore_report.specs.ChainRule.{chain_allows, chain_allows_spent}
use Rattle.ore_commands.specs.Finding.{found_text, IsSearchReply}
use Rattle.ore_commands.specs.Search.{IsFoundBy, IsCorrectFound}
use Rattle.ore_commands.proofs.Searches.{none_treated, found_replied}
use Rattle.ore_commands.proofs.RepliesOfCheck.{if_ok}
use Rattle.ore_commands.proofs.search.reply_in.Goals as goal

pub returns-in-Ok : goal.returns-in-Ok
returns-in-Ok g c =
    let p = system_of c.args.problem in
    let r = row_matrix_of c.args.problem.matrix in
    let found = c.in-Ok.found in
    let before = c.new-chooser.result in
    let after = c.find.new.chooser in
    let start : before.given ≡ [] = ap (λ x. x.given) c.new-chooser.ensures in
    let budget : after.budget ≡ c.args.search.budget = ap (λ x. x.budget) c.in-Ok.ensures.settings ∙ ap (λ x. x.budget) c.new-chooser.ensures in
    let within_budget : AreWithinBudget after.given c.args.search.budget = subst (AreWithinBudget after.given) budget (c.in-Ok.ensures.within_budget (subst (λ runs. AreWithinBudget runs before.budget) (sym start) (none_treated before.budget))) in
    let by = subst (λ s. IsFoundBy s r chain_allows chain_allows_spent c.args.search.plan before.given after.given found) c.requires.same c.in-Ok.ensures.answered in
    let since = subst (λ runs. IsFoundBy c.args.problem.signature r chain_allows chain_allows_spent c.args.search.plan runs after.given found) start by in
    let right = subst (λ s. IsCorrectFound s r c.args.search.plan found) c.requires.same c.in-Ok.ensures.correct in
    if_ok c.found_reply.result (λ reply. reply_of reply ≡ record { status = Done; text = found_text p c.args.search.brief found }) (λ reply. IsSearchReply p c.args.search (reply_of reply)) c.found_reply.ensures
    (λ reply e. inl (found_replied p c.args.search after.given within_budget found since right c.law_found_is_storable.ensures (reply_of reply) e))
