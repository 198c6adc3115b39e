use Rattle.std.proofs.Common.{◌++◌, rules}
use Rattle.std.specs.Prelude.{codes}
use Rattle.ore_parts.specs.BlockText.{place, is_place}
use Rattle.ore_cert.proofs.WholeLaws.{unit_words_are}
use Rattle.ore_parts.proofs.FormatReads.{line_read}
use Rattle.ore_cert.proofs.line_words.read_unit.Goals as goal

pub returns : goal.returns
returns c = line_read (λ k. codes "unit " ++ place k) is_place unit_words_are _ c.args.lines.now c.read_line.result c.read_line.new.lines c.read_line.ensures (λ due found h. search rules)
