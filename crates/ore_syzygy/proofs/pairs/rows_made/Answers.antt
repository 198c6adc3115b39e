use Rattle.ore_syzygy.proofs.EventOrigins.{new_rows-zero, new_rows-new, new_rows-skipped}
use Rattle.ore_syzygy.proofs.pairs.rows_made.Goals as goal

pub returns-in-Zero-clause-value : goal.returns-in-Zero-clause-value
returns-in-Zero-clause-value c = λ rest. new_rows-zero c.args.event.now rest c.in-Treated.i c.in-Treated.j c.in-Treated.steps c.in-Treated.outcome c.in-Treated.is c.in-Zero.is

pub returns-in-NewRow-clause-value : goal.returns-in-NewRow-clause-value
returns-in-NewRow-clause-value c = λ rest. new_rows-new c.args.event.now rest c.in-Treated.i c.in-Treated.j c.in-Treated.steps c.in-Treated.outcome c.in-NewRow.coef c.in-Treated.is c.in-NewRow.is

pub returns-in-Skipped-clause-value : goal.returns-in-Skipped-clause-value
returns-in-Skipped-clause-value c = λ rest. new_rows-skipped c.args.event.now rest c.in-Skipped.i c.in-Skipped.j c.in-Skipped.via c.in-Skipped.is
