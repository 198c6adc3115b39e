use Rattle.std.proofs.Common.{◌≡◌, ◌≢◌, [], ap, sym, ◌∙◌}
use Rattle.std.specs.declared.option.Option.TheVariants.{None, Some}
use Rattle.ore_course.specs.Replaying.{kept_of, replayed}
use Rattle.ore_cert.specs.CourseReport.{course_report}
use Rattle.ore_blocks.specs.CheckBlock.{row_matrix_of}
use Rattle.ore_groebner.specs.declared.outcome.Halt.TheVariants as stopped
use Rattle.ore_check.specs.Reports.{program_runner}
use Rattle.ore_report.specs.Replay.{given_by, fronts_of}
use Rattle.ore_commands.specs.ReportAnswers.{answer_to, end_of}
use Rattle.ore_commands.proofs.Replays.{none_halted, some_halted, decides}
use Rattle.ore_commands.proofs.report_check.check_report.Goals as goal

pub returns-in-None-clause-answer : goal.returns-in-None-clause-answer
unfolding fronts_of
returns-in-None-clause-answer g c =
    let s = g.R.OreRing.sig c.args.ring.now in
    let report = c.args.report.now in
    let chooser = c.find.new.chooser in
    let keeps : chooser.kept ≡ kept_of (course_report report) = ap (λ x. x.kept) c.find.ensures.settings ∙ ap (λ x. x.kept) c.in-Ok.ensures in
    let start : given_by c.in-Ok.chooser ≡ [] = ap given_by c.in-Ok.ensures in
    let none = none_halted s (row_matrix_of c.args.r.now) report chooser keeps c.find.result (given_by c.in-Ok.chooser) start (sym c.err.ensures.value ∙ c.in-None.is) c.find.ensures.answered in
    λ memory. c.answer.ensures s ∙ ap (λ runs. answer_to report (replayed (program_runner s) (course_report report) runs (end_of None))) c.given.ensures ∙ none

pub returns-in-None-clause-honest : goal.returns-in-None-clause-honest
returns-in-None-clause-honest g c = decides (g.R.OreRing.sig c.args.ring.now) (row_matrix_of c.args.r.now) c.args.report.now c.answer.result (returns-in-None-clause-answer g c)

pub returns-clause-answer : goal.returns-clause-answer
unfolding fronts_of
returns-clause-answer g c =
    let s = g.R.OreRing.sig c.args.ring.now in
    let report = c.args.report.now in
    let chooser = c.find.new.chooser in
    let halt = c.in-Some.halt in
    let keeps : chooser.kept ≡ kept_of (course_report report) = ap (λ x. x.kept) c.find.ensures.settings ∙ ap (λ x. x.kept) c.in-Ok.ensures in
    let start : given_by c.in-Ok.chooser ≡ [] = ap given_by c.in-Ok.ensures in
    λ memory.
    let some : halt ≢ stopped.Memory = λ e. memory (c.halted_answer.ensures.memory e) in
    c.halted_answer.ensures.answer some s ∙ ap (λ runs. answer_to report (replayed (program_runner s) (course_report report) runs (end_of (Some halt)))) c.given-in-Some.ensures
    ∙ some_halted s (row_matrix_of c.args.r.now) report chooser keeps c.find.result (given_by c.in-Ok.chooser) start halt (sym c.err.ensures.value ∙ c.in-Some.is) c.find.ensures.halts some

pub returns-clause-honest : goal.returns-clause-honest
returns-clause-honest g c = decides (g.R.OreRing.sig c.args.ring.now) (row_matrix_of c.args.r.now) c.args.report.now c.halted_answer.result (returns-clause-answer g c)
