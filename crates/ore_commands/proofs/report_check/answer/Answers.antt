use Rattle.std.proofs.Common.{◌≡◌, ◌+◌, ◌<◌, ◌≤◌, suc, [], length, get_or, sym, subst, arith}
use Rattle.std.proofs.lemmas.Option.{get_or_from_slice_get}
use Rattle.ore_course.specs.Replaying.{passed_of}
use Rattle.ore_commands.specs.ReportAnswers.{end_of}
use Rattle.ore_commands.proofs.Replays.{IsReplayedFrom, none_begun, fewer_passed, all_passed, more_begun, stop_passes, stop_fails}
use Rattle.ore_commands.proofs.report_check.answer.Goals as goal

pub returns-then-k-len : goal.returns-then-k-len
returns-then-k-len c =
    let report = c.args.report.now in
    let given = c.args.given.now in
    let past : length given ≤ c.loop-k.k = omega (arith, c.if-k-len.true, c.len.ensures.count) in
    let inside : c.loop-k.k < length report.runs = omega (arith, c.loop-k-test.true, c.len-k-end.ensures.count) in
    none_begun report given (end_of c.args.end) c.loop-k.k c.loop-k.invariant c.run_fails.result past inside c.run_fails.ensures

pub choice_fails-requires-clause-choice : goal.choice_fails-requires-clause-choice
choice_fails-requires-clause-choice c =
    let runs = c.args.report.now.runs in
    let read = get_or_from_slice_get runs c.loop-k.k c.get.result.now [] c.get.ensures in
    let short : c.passed-count.result < length c.get.result.now = omega (arith, c.if-count-len.true, c.len-in-loop-k.ensures.count) in
    subst (λ cs. c.passed-count.result < length cs) (sym read) short

pub returns-then-count-len : goal.returns-then-count-len
returns-then-count-len c =
    let report = c.args.report.now in
    let given = c.args.given.now in
    let begun : c.loop-k.k < length given = omega (arith, c.if-k-len.false, c.len.ensures.count) in
    let inside : c.loop-k.k < length report.runs = omega (arith, c.loop-k-test.true, c.len-k-end.ensures.count) in
    fewer_passed report given (end_of c.args.end) c.loop-k.k c.loop-k.invariant c.choice_fails.result c.choice_fails.ensures.0 c.passed-count.result c.passed-count.ensures begun inside
    c.choice_fails.ensures.1 c.choice_fails.ensures.2

pub loop-k-preserved : goal.loop-k-preserved
loop-k-preserved c =
    let report = c.args.report.now in
    let given = c.args.given.now in
    let end = end_of c.args.end in
    let begun : c.loop-k.k < length given = omega (arith, c.if-k-len.false, c.len.ensures.count) in
    let inside : c.loop-k.k < length report.runs = omega (arith, c.loop-k-test.true, c.len-k-end.ensures.count) in
    let read = get_or_from_slice_get report.runs c.loop-k.k c.get.result.now [] c.get.ensures in
    let all : length c.get.result.now ≤ length (get_or (passed_of given end) c.loop-k.k []) = omega (arith, c.if-count-len.false, c.len-in-loop-k.ensures.count, c.passed-count.ensures) in
    let more : suc c.loop-k.k ≡ c.loop-k.k + 1 = omega arith in
    subst (λ n. IsReplayedFrom report given end n) more
    (all_passed report given end c.loop-k.k c.loop-k.invariant begun inside (subst (λ cs. length cs ≤ length (get_or (passed_of given end) c.loop-k.k [])) (sym read) all))

pub returns-then-len : goal.returns-then-len
returns-then-len c =
    let report = c.args.report.now in
    let given = c.args.given.now in
    let past : length report.runs ≤ c.loop-k.k = omega (arith, c.loop-k-test.false, c.len-k-end.ensures.count) in
    let begun : c.loop-k.k < length given = omega (arith, c.loop-k.auto.k-end, c.len-k-end.ensures.count, c.if-len.true, c.len-2.ensures.count, c.len-3.ensures.count) in
    more_begun report given (end_of c.args.end) c.loop-k.k c.loop-k.invariant c.stop_fails.result past begun c.stop_fails.ensures

pub returns-then-stop_passes : goal.returns-then-stop_passes
returns-then-stop_passes c =
    let report = c.args.report.now in
    let given = c.args.given.now in
    let past : length report.runs ≤ c.loop-k.k = omega (arith, c.loop-k-test.false, c.len-k-end.ensures.count) in
    let none : length given ≤ c.loop-k.k = omega (arith, past, c.if-len.false, c.len-2.ensures.count, c.len-3.ensures.count) in
    stop_passes report given (end_of c.args.end) c.loop-k.k c.loop-k.invariant c.stop_passes.result c.stop_passes.ensures past none c.if-stop_passes.true

pub returns-else-stop_passes : goal.returns-else-stop_passes
returns-else-stop_passes c =
    let report = c.args.report.now in
    let given = c.args.given.now in
    let past : length report.runs ≤ c.loop-k.k = omega (arith, c.loop-k-test.false, c.len-k-end.ensures.count) in
    let none : length given ≤ c.loop-k.k = omega (arith, past, c.if-len.false, c.len-2.ensures.count, c.len-3.ensures.count) in
    stop_fails report given (end_of c.args.end) c.loop-k.k c.loop-k.invariant c.stop_passes.result c.stop_passes.ensures past none c.stop_fails-else-stop_passes.result c.if-stop_passes.false
    c.stop_fails-else-stop_passes.ensures
