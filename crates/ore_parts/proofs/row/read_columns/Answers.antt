use Rattle.std.proofs.Common.{◌<◌, rules}
use Rattle.ore_parts.specs.CertificateText.{number_bound, matrix_words}
use Rattle.ore_parts.proofs.PartLaws.{columns_words}
use Rattle.ore_parts.proofs.FormatReads.{line_read}
use Rattle.ore_parts.proofs.row.read_columns.Goals as goal

pub returns : goal.returns
returns c = line_read (λ cols. matrix_words c.args.name.now 1 cols) (λ cols. cols < number_bound) (columns_words c.args.name.now c.requires) _ c.args.lines.now c.read_line.result c.read_line.new.lines c.read_line.ensures (λ due found h. search rules)
