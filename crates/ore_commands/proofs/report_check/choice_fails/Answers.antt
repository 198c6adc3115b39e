use Rattle.std.proofs.Common.{◌≡◌, ◌<◌, [], length, slice_get, Some, sym, subst, arith}
use Rattle.std.proofs.lemmas.Option.{get_or_from_slice_get}
use Rattle.ore_commands.proofs.ReportLines.{choice_line}
use Rattle.ore_commands.proofs.report_check.choice_fails.Goals as goal

pub overflow_add-n : goal.overflow_add-n
overflow_add-n c =
    let run = c.get-run.result.now in
    let short : c.args.n < length run = subst (λ cs. c.args.n < length cs) (get_or_from_slice_get c.args.report.now.runs c.args.k run [] c.get-run.ensures) c.requires.choice in
    omega (arith, short, c.len-choices.ensures.count, c.len-choices.ensures.few)

pub get-choice-requires : goal.get-choice-requires
get-choice-requires c =
    subst (λ cs. c.args.n < length cs) (get_or_from_slice_get c.args.report.now.runs c.args.k c.get-run.result.now [] c.get-run.ensures) c.requires.choice

pub returns : goal.returns
returns c =
    let run = c.get-run.result.now in
    let choice = c.get-choice.result.now in
    let read = get_or_from_slice_get c.args.report.now.runs c.args.k run [] c.get-run.ensures in (
      choice,
      subst (λ cs. slice_get cs c.args.n ≡ Some choice) (sym read) c.get-choice.ensures,
      choice_line c.args.report.now c.args.k c.args.n c.line_at.result c.saturating_add-line.result choice c.reason_of.result c.line_at.ensures c.saturating_add-line.ensures (c.reason_of.ensures c.args.k c.args.n),
    )
