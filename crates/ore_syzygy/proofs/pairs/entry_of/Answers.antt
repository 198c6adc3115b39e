use Rattle.ore_syzygy.proofs.EventOrigins.{entries-skipped}
use Rattle.ore_syzygy.proofs.pairs.entry_of.Goals as goal

pub returns-in-Skipped-clause-value : goal.returns-in-Skipped-clause-value
returns-in-Skipped-clause-value c = λ rest. entries-skipped c.args.next c.in-Skipped.i c.in-Skipped.j c.in-Skipped.via c.args.event rest c.in-Skipped.is
