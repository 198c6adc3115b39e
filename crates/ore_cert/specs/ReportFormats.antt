-- The formats of the lines of a report.
--     plan_line, choice_words, stop_line     what the lines say
--     plan_format, choice_format             these lines
--     report_line_words, report_line_format     the line of a run, or the last line
--     IsWrittenReportLine            its numbers are in their ranges
--     next_text, next_format         a run with its choices, or the last line
--     IsWrittenNext                  its numbers are in their ranges
--     runs_format                    the runs and the last line
--     report_rest_format             what follows the first line of a report
--     IsNoUnnumberedPlan             no plan without a number
use Rattle.std.specs.Prelude.{◌≢◌, ℕ, ◌<◌, List, [], ◌∷◌, ◌++◌, codes, decimal}
use Rattle.std.specs.List.{All, flat_map, join_with_byte}
use Rattle.ore_rows.specs.declared.choices.Choice.{Choice}
use Rattle.ore_rows.specs.declared.choices.Choice.TheVariants as choice
use Rattle.ore_cert.specs.declared.report.Plan.{Plan}
use Rattle.ore_cert.specs.declared.report.Stop.{Stop}
use Rattle.ore_cert.specs.declared.report_lines.Next.{Next}
use Rattle.ore_cert.specs.declared.report_lines.Next.TheVariants.{Run, End}
use Rattle.ore_cert.specs.declared.report_lines.ReportLine.{ReportLine}
use Rattle.ore_cert.specs.declared.report_lines.ReportLine.TheVariants.{RunLine, StopLine}
use Rattle.ore_parts.specs.BlockText.{place}
use Rattle.ore_parts.specs.CertificateText.{number_bound}
use Rattle.ore_parts.specs.Formats.{Format, one_line, sequence}
use Rattle.ore_cert.specs.WholeText.{plan_words, stop_words, run_text, IsWrittenChoice, IsWrittenPlan, IsWrittenStop, IsWrittenRun}

-- `plan`, and then the words of what was computed, without the line end
abbrev pub plan_line : Plan → List ℕ
plan_line p = join_with_byte 32 (codes "plan" ∷ plan_words p)

-- what was computed, on one line
abbrev pub plan_format : Format Plan
plan_format = one_line plan_line IsWrittenPlan

-- `treat` and two places, or `skip` and three, without the line end
abbrev pub choice_words : Choice → List ℕ
choice_words (choice.Treat i j) = codes "treat " ++ (place i ++ 32 ∷ place j)
choice_words (choice.Skip i j via) = codes "skip " ++ (place i ++ 32 ∷ (place j ++ 32 ∷ place via))

-- a choice, on one line
abbrev pub choice_format : Format Choice
choice_format = one_line choice_words IsWrittenChoice

-- `stop`, and then the words of where it stopped, without the line end
abbrev pub stop_line : Stop → List ℕ
stop_line s = join_with_byte 32 (codes "stop" ∷ stop_words s)

-- `run` and the number of its choices, or the words of the last line, without the line end
abbrev pub report_line_words : ReportLine → List ℕ
report_line_words (RunLine count) = codes "run " ++ decimal count
report_line_words (StopLine stop) = stop_line stop

-- the number of choices is below 2^63, and the places of the last line may be written
abbrev pub IsWrittenReportLine : ReportLine → Type 0
IsWrittenReportLine (RunLine count) = count < number_bound
IsWrittenReportLine (StopLine stop) = IsWrittenStop stop

-- the line of a run alone, or the last line; the choices are no part of it
abbrev pub report_line_format : Format ReportLine
report_line_format = one_line report_line_words IsWrittenReportLine

-- the line of a run and then its choices, or the last line
abbrev pub next_text : Next → List ℕ
next_text (Run choices) = run_text choices
next_text (End stop) = stop_line stop ++ 10 ∷ []

-- the run may be written, or the last line
abbrev pub IsWrittenNext : Next → Type 0
IsWrittenNext (Run choices) = IsWrittenRun choices
IsWrittenNext (End stop) = IsWrittenStop stop

-- what may follow the plan, or a run
abbrev pub next_format : Format Next
next_format = record { text = next_text; may = IsWrittenNext }

-- the runs, whose number no line says, and then the last line
abbrev pub runs_format : Format (List (List Choice) × Stop)
runs_format = record { text = λ p. flat_map run_text p.0 ++ (stop_line p.1 ++ 10 ∷ []); may = λ p. All IsWrittenRun p.0 × IsWrittenStop p.1 }

-- the plan, the runs and the last line
abbrev pub report_rest_format : Format (Plan × (List (List Choice) × Stop))
report_rest_format = sequence plan_format (λ _. runs_format)

-- the text is the line of none of these plans, which have no number
pub record IsNoUnnumberedPlan (text : List ℕ) : Type 0 where
  pub analyse : text ≢ codes "plan analyse"
  pub kernel_left : text ≢ codes "plan kernel left"
  pub kernel_right : text ≢ codes "plan kernel right"
  pub inverse_left : text ≢ codes "plan inverse left"
  pub inverse_right : text ≢ codes "plan inverse right"
  pub adjoint : text ≢ codes "plan adjoint"
