use Rattle.std.proofs.Common.{[], subst}
use Rattle.ore_cert.specs.declared.report_lines.ReportLine.TheVariants.{RunLine, StopLine}
use Rattle.ore_parts.specs.Formats.{Finds}
use Rattle.ore_cert.specs.ReportFormats.{choice_format, report_line_format}
use Rattle.ore_parts.proofs.FormatReads.{finds_none}
use Rattle.ore_parts.proofs.TwoParts.{both_found, first_fails, second_fails}
use Rattle.ore_cert.proofs.ReportLaws.{choice_is, next_parts}
use Rattle.ore_cert.proofs.report_lines.read_next.Goals as goal

pub returns-in_err-count : goal.returns-in_err-count
returns-in_err-count c = first_fails next_parts c.args.lines.now c.read_report_line.new.lines c.from_residual.result c.in_err-count.field-0.0 c.from_residual.ensures.1 c.in_err-count.ensures

pub returns-in_err-choices-in-RunLine : goal.returns-in_err-choices-in-RunLine
returns-in_err-choices-in-RunLine c =
    let line = subst (λ k. Finds report_line_format c.args.lines.now k c.read_report_line.new.lines) c.in-RunLine.is c.in_ok-count.ensures in
    second_fails next_parts c.args.lines.now c.read_report_line.new.lines c.read_choices.new.lines (RunLine c.in-RunLine.count) c.from_residual-in_err-choices-in-RunLine.result c.in_err-choices-in-RunLine.field-0.0
    c.from_residual-in_err-choices-in-RunLine.ensures.1 line c.in_err-choices-in-RunLine.ensures

pub returns-in_ok-choices-in-RunLine : goal.returns-in_ok-choices-in-RunLine
returns-in_ok-choices-in-RunLine c =
    let line = subst (λ k. Finds report_line_format c.args.lines.now k c.read_report_line.new.lines) c.in-RunLine.is c.in_ok-count.ensures in
    both_found next_parts c.args.lines.now c.read_report_line.new.lines c.read_choices.new.lines (RunLine c.in-RunLine.count) c.in_ok-choices-in-RunLine.choices line c.in_ok-choices-in-RunLine.ensures

pub returns-in-StopLine : goal.returns-in-StopLine
returns-in-StopLine c =
    let line = subst (λ k. Finds report_line_format c.args.lines.now k c.read_report_line.new.lines) c.in-StopLine.is c.in_ok-count.ensures in
    both_found next_parts c.args.lines.now c.read_report_line.new.lines c.read_report_line.new.lines (StopLine c.in-StopLine.stop) [] line (finds_none choice_format choice_is c.read_report_line.new.lines)
