-- The answer of the check of a report, by how a search with its choices ended.
--     end_of         how it ended, in the words of courses
--     answer_to      the answer where this place of the report is the first that fails, or none does
--     line_at        the number of the line that begins a run of a report
use Rattle.std.specs.Prelude.{ℕ, ◌+◌, List}
use Rattle.std.specs.declared.option.Option.{Option}
use Rattle.std.specs.declared.option.Option.TheVariants.{None, Some}
use Rattle.ore_course.specs.Failing.{ReportPlace, run_lines_before}
use Rattle.ore_course.specs.Replaying.{End}
use Rattle.ore_rows.specs.declared.choices.Choice.{Choice}
use Rattle.ore_cert.specs.declared.report.Report.{Report}
use Rattle.ore_groebner.specs.Courses.{halt_in_course}
use Rattle.ore_groebner.specs.declared.outcome.Halt.{Halt}
use Rattle.ore_check.specs.declared.answer.Checked.{Checked as Answer}
use Rattle.ore_check.specs.declared.answer.Checked.TheVariants as answer
use Rattle.ore_check.specs.Check.{capped}
use Rattle.ore_check.specs.Reports.{line_of_place, reason_of}

-- with an answer, or with this halt
abbrev pub end_of : Option Halt → End Choice
end_of None = None
end_of (Some halt) = Some (halt_in_course halt)

-- valid, or invalid on the line of the place
abbrev pub answer_to : Report → Option (ReportPlace Choice) → Answer
answer_to report None = answer.Valid
answer_to report (Some place) = answer.Invalid (capped (line_of_place report place)) (reason_of place)

-- behind those of the format, of the cause and of the plan, and those of the runs before
abbrev pub line_at : List (List Choice) → ℕ → ℕ
line_at runs k = 4 + run_lines_before runs k
