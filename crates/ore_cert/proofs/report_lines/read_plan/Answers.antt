use Rattle.std.proofs.Common.{rules}
use Rattle.ore_cert.specs.ReportFormats.{plan_line}
use Rattle.ore_cert.specs.WholeText.{IsWrittenPlan}
use Rattle.ore_cert.proofs.ReportLaws.{plan_words_are}
use Rattle.ore_parts.proofs.FormatReads.{line_read}
use Rattle.ore_cert.proofs.report_lines.read_plan.Goals as goal

pub returns : goal.returns
returns c = line_read plan_line IsWrittenPlan plan_words_are _ c.args.lines.now c.read_line.result c.read_line.new.lines c.read_line.ensures (λ due found h. search rules)
