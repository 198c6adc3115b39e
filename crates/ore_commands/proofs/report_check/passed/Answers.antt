use Rattle.std.proofs.Common.{◌≡◌, ◌+◌, ◌<◌, suc, cond, length, ap, ◌∙◌, arith}
use Rattle.ore_course.specs.Choices.{without_last}
use Rattle.ore_commands.specs.ReportAnswers.{end_of}
use Rattle.ore_commands.proofs.Replays.{passed_inside, passed_all, passed_but_one}
use Rattle.ore_commands.proofs.report_check.passed.Goals as goal

pub overflow_add-k : goal.overflow_add-k
overflow_add-k c = omega (arith, c.requires, c.len-begun.ensures.count, c.len-begun.ensures.few)

pub returns-then-k-begun : goal.returns-then-k-begun
returns-then-k-begun c =
    let more : c.args.k + 1 < length c.args.given.now = omega (arith, c.if-k-begun.true, c.len-begun.ensures.count) in
    passed_inside c.args.given.now (end_of c.args.end) c.args.k c.get.result.now c.get.ensures c.len-count.result c.len-count.ensures.count more

pub returns-then-is_in_choice : goal.returns-then-is_in_choice
returns-then-is_in_choice c =
    let given = c.args.given.now in
    let last : length given ≡ suc c.args.k = omega (arith, c.requires, c.if-k-begun.false, c.len-begun.ensures.count) in
    passed_but_one given (end_of c.args.end) c.args.k c.get.result.now c.get.ensures c.len-count.result c.len-count.ensures.count c.saturating_sub.result c.saturating_sub.ensures last
    (c.is_in_choice.ensures given ∙ ap (λ b. cond b (without_last given) given) c.if-is_in_choice.true)

pub returns-else-is_in_choice : goal.returns-else-is_in_choice
returns-else-is_in_choice c =
    let given = c.args.given.now in
    passed_all given (end_of c.args.end) c.args.k c.get.result.now c.get.ensures c.len-count.result c.len-count.ensures.count
    (c.is_in_choice.ensures given ∙ ap (λ b. cond b (without_last given) given) c.if-is_in_choice.false)
