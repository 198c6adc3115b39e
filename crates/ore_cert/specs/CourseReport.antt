-- The report of a text as a report of courses (Report of ore_course). What was computed, its plan, names the course.
--     reported_as        why it stopped
--     stop_as            where
--     course_report      the whole
use Rattle.ore_algebra.specs.Limits as limits
use Rattle.ore_course.specs.Report.{Reported, ByStop, ByBudget, StopLine, AtForced, AtChoice, AtBudget}
use Rattle.ore_course.specs.Report as course
use Rattle.ore_rows.specs.declared.choices.Choice.{Choice}
use Rattle.ore_rows.specs.declared.choices.Choice.TheVariants as choice
use Rattle.ore_cert.specs.declared.report.Cause.{Cause}
use Rattle.ore_cert.specs.declared.report.Cause.TheVariants as cause
use Rattle.ore_cert.specs.declared.report.Report.{Report}
use Rattle.ore_cert.specs.declared.report.Stop.{Stop}
use Rattle.ore_cert.specs.declared.report.Stop.TheVariants as stop

-- an operation stopped, or a budget is spent
abbrev pub reported_as : Cause → Reported
reported_as cause.Overflow = ByStop limits.Overflow
reported_as cause.Degree = ByStop limits.Degree
reported_as (cause.Budget n) = ByBudget n

-- the choice that stopped is the treatment of the pair
abbrev pub stop_as : Stop → StopLine Choice
stop_as stop.Forced = AtForced
stop_as (stop.Treat i j) = AtChoice (choice.Treat i j)
stop_as stop.Budget = AtBudget

-- cause, runs and stop are those of the report
abbrev pub course_report : Report → course.Report Choice
course_report r = record { cause = reported_as r.cause; runs = r.runs; stop = stop_as r.stop }
