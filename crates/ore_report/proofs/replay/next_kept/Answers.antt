use Rattle.std.proofs.Common.{sym, ◌∙◌, arith}
use Rattle.std.proofs.lemmas.Option.{slice_get_past}
use Rattle.ore_report.proofs.Replays.{next_at}
use Rattle.ore_report.proofs.replay.next_kept.Goals as goal

pub returns-then-count-len : goal.returns-then-count-len
returns-then-count-len c =
    sym (next_at c.args.kept.now c.args.given.now c.len-last.result c.get-run.result.now c.get.result.now c.len-count.result c.requires.begun c.len-last.ensures.count c.get-run.ensures c.get.ensures c.len-count.ensures.count
    ∙ slice_get_past c.get-run.result.now c.len-count.result (omega (arith, c.if-count-len.true, c.len-2.ensures.count)))

pub returns : goal.returns
returns c =
    sym (next_at c.args.kept.now c.args.given.now c.len-last.result c.get-run.result.now c.get.result.now c.len-count.result c.requires.begun c.len-last.ensures.count c.get-run.ensures c.get.ensures c.len-count.ensures.count
    ∙ c.get-2.ensures)
