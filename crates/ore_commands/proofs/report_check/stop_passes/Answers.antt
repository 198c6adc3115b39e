use Rattle.std.proofs.Common.{sym, ap₂, ◌∙◌}
use Rattle.ore_course.specs.Choices.{treatment_count_in}
use Rattle.ore_course.specs.Replaying.{stop_decided}
use Rattle.ore_pairs.specs.Runner.{treats_pair}
use Rattle.ore_cert.specs.CourseReport.{reported_as, stop_as}
use Rattle.ore_commands.specs.ReportAnswers.{end_of}
use Rattle.ore_commands.proofs.report_check.stop_passes.Goals as goal

pub returns-in-Forced : goal.returns-in-Forced
returns-in-Forced c =
    let treated = treatment_count_in treats_pair c.args.report.now.runs in
    c.forced_passes.ensures treated ∙ ap₂ (λ st e. stop_decided (reported_as c.args.report.now.cause) treated (stop_as st) (end_of e)) (sym c.in-Forced.is) (sym c.in-Some.is)

pub returns-in-Treat : goal.returns-in-Treat
returns-in-Treat c =
    let treated = treatment_count_in treats_pair c.args.report.now.runs in
    c.choice_passes.ensures treated ∙ ap₂ (λ st e. stop_decided (reported_as c.args.report.now.cause) treated (stop_as st) (end_of e)) (sym c.in-Treat.is) (sym c.in-Some.is)
