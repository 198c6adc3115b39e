use Rattle.std.proofs.Common.{rules}
use Rattle.ore_cert.specs.ReportFormats.{report_line_words, IsWrittenReportLine}
use Rattle.ore_cert.proofs.ReportLaws.{report_words_are}
use Rattle.ore_parts.proofs.FormatReads.{line_read}
use Rattle.ore_cert.proofs.report_lines.read_report_line.Goals as goal

pub returns : goal.returns
returns c = line_read report_line_words IsWrittenReportLine report_words_are _ c.args.lines.now c.read_line.result c.read_line.new.lines c.read_line.ensures (λ due found h. search rules)
