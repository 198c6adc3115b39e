use Rattle.std.proofs.Common.{rules}
use Rattle.ore_cert.specs.KindFormat.{IsWrittenKind}
use Rattle.ore_cert.specs.KindWords.{kind_words}
use Rattle.ore_cert.proofs.KindLaws.{kind_line}
use Rattle.ore_parts.proofs.FormatReads.{line_read}
use Rattle.ore_cert.proofs.kind.read_kind.Goals as goal

pub returns : goal.returns
returns c = line_read kind_words IsWrittenKind kind_line _ c.args.lines.now c.read_line.result c.read_line.new.lines c.read_line.ensures (λ due found h. search rules)
