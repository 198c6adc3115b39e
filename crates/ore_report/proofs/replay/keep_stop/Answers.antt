use Rattle.std.proofs.Common.{length, sym, ap, ◌∙◌}
use Rattle.ore_course.specs.Replaying.{kept_with}
use Rattle.ore_cert.specs.CourseReport.{stop_as}
use Rattle.ore_rows.specs.declared.choices.Choice.TheVariants.{Treat}
use Rattle.ore_report.proofs.Replays.{none_with}
use Rattle.ore_report.proofs.replay.keep_stop.Goals as goal

pub returns-then-len-eq0 : goal.returns-then-len-eq0
returns-then-len-eq0 c =
    sym (ap (λ stop. kept_with c.args.kept.now (stop_as stop)) c.in-Treat.is
    ∙ none_with c.args.kept.now (Treat c.in-Treat.i c.in-Treat.j) (sym (ap length c.runs.ensures) ∙ sym c.len.ensures.count ∙ c.if-len-eq0.true))
