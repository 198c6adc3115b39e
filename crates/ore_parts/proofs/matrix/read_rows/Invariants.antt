use Rattle.ore_parts.specs.Formats.{Finds, items}
use Rattle.ore_parts.specs.PartFormats.{stored_row_format}
use Rattle.ore_parts.proofs.matrix.read_rows.Given as goal

abbrev pub invariant-loop : goal.invariant-loop
invariant-loop l = Finds (items (stored_row_format l.algebra.signature.now l.algebra.names.now l.cols) l.counter) l.initial.lines l.rows.items l.lines
