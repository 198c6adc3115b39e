use Rattle.std.proofs.Common.{rules}
use Rattle.ore_cert.specs.ReportFormats.{choice_words}
use Rattle.ore_cert.specs.WholeText.{IsWrittenChoice}
use Rattle.ore_cert.proofs.ReportLaws.{choice_words_are}
use Rattle.ore_parts.proofs.FormatReads.{line_read}
use Rattle.ore_cert.proofs.report_lines.read_choice.Goals as goal

pub returns : goal.returns
returns c = line_read choice_words IsWrittenChoice choice_words_are _ c.args.lines.now c.read_line.result c.read_line.new.lines c.read_line.ensures (λ due found h. search rules)
