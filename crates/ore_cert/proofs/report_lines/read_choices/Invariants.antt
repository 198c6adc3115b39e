use Rattle.ore_parts.specs.Formats.{Finds, items}
use Rattle.ore_cert.specs.ReportFormats.{choice_format}
use Rattle.ore_cert.proofs.report_lines.read_choices.Given as goal

abbrev pub invariant-loop : goal.invariant-loop
invariant-loop l = Finds (items choice_format l.counter) l.initial.lines l.choices.items l.lines
