use Rattle.ore_check.proofs.TextLines.{end_is_last}
use Rattle.ore_check.proofs.laws.law_lines_counted.Goals as goal

pub returns : goal.returns
returns c = λ names are fit d written claims. end_is_last c.args.sig.now names are fit d written claims
