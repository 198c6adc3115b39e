use Rattle.std.proofs.Common.{◌≡◌, ◌-◌, ◌++◌, length, take, drop, ap, subst, ◌∙◌}
use Rattle.std.proofs.lemmas.List.{take_rest}
use Rattle.std.specs.Prelude.{codes}
use Rattle.ore_reply.specs.MadeReply.{reply_of}
use Rattle.ore_commands.specs.Generating.{generated_text}
use Rattle.ore_commands.specs.Surveying.{survey_text, SaysSurveyed}
use Rattle.ore_commands.specs.ReplyOfCheck.{IsReplyOfCheck}
use Rattle.ore_commands.proofs.Surveys.{survey_due}
use Rattle.ore_commands.proofs.RepliesOfCheck.{if_ok}
use Rattle.ore_commands.proofs.survey.checked_text.Goals as goal

pub returns : goal.returns
returns c =
    let n = c.args.number in
    let certificate = c.args.certificate.now in
    let checked = reply_of c.in_ok-checked.checked in
    let said = c.deref-said.result.now in
    let bytes : c.deref.result.now ≡ generated_text n ++ certificate = c.deref.ensures.value ∙ c.in_ok-extend_from_slice.ensures.items ∙ ap (λ t. t ++ certificate) (c.in_ok-bytes.ensures.items ∙ c.requires.problem) in
    let due = survey_due c.law_generated_is_read.ensures n c.law_reply_is_one.ensures certificate checked c.requires.found (subst (λ b. IsReplyOfCheck b checked) bytes c.in_ok-checked.ensures.verdict) in
    let valid : said ≡ codes "valid " ++ due.0 = c.deref-said.ensures.value ∙ due.1 in
    let verdict : take (length said - 6) (drop 6 said) ≡ due.0 = take_rest said 6 ∙ ap (drop 6) valid in
    if_ok c.survey_text.result (λ text. text.items ≡ survey_text (take (length said - 6) (drop 6 said)) (length certificate)) (λ text. SaysSurveyed n text.items) c.survey_text.ensures
    (λ text e. due.2 text.items (e ∙ ap (λ v. survey_text v (length certificate)) verdict))
