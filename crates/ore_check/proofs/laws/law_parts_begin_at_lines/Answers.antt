use Rattle.ore_check.proofs.PartLines.{parts_begin}
use Rattle.ore_check.proofs.laws.law_parts_begin_at_lines.Goals as goal

pub returns : goal.returns
returns c = λ names are fit d written claims. parts_begin c.args.sig.now names are fit d written claims
