use Rattle.std.proofs.Common.{◌<◌, ◌∷◌, ◌++◌, rules}
use Rattle.std.specs.Prelude.{decimal}
use Rattle.ore_parts.specs.CertificateText.{number_bound}
use Rattle.ore_parts.proofs.PartLaws.{count_line}
use Rattle.ore_parts.proofs.FormatReads.{line_read}
use Rattle.ore_parts.proofs.count.read_count.Goals as goal

pub returns : goal.returns
returns c = line_read (λ n. c.args.word.now ++ 32 ∷ decimal n) (λ n. n < number_bound) (count_line c.args.word.now c.requires) _ c.args.lines.now c.read_line.result c.read_line.new.lines c.read_line.ensures (λ due found h. search rules)
