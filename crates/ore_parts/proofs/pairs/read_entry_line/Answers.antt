use Rattle.std.proofs.Common.{rules}
use Rattle.ore_parts.specs.PartFormats.{entry_words, IsWrittenLine}
use Rattle.ore_parts.proofs.PartLaws.{entry_line}
use Rattle.ore_parts.proofs.FormatReads.{line_read}
use Rattle.ore_parts.proofs.pairs.read_entry_line.Goals as goal

pub returns : goal.returns
returns c = line_read entry_words IsWrittenLine entry_line _ c.args.lines.now c.read_line.result c.read_line.new.lines c.read_line.ensures (λ due found h. search rules)
