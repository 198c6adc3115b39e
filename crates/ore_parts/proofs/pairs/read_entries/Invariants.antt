use Rattle.ore_parts.specs.Formats.{Finds, items}
use Rattle.ore_parts.specs.PartFormats.{entry_format}
use Rattle.ore_parts.proofs.pairs.read_entries.Given as goal

abbrev pub invariant-loop : goal.invariant-loop
invariant-loop l = Finds (items (entry_format l.algebra.signature.now l.algebra.names.now) l.counter) l.initial.lines l.entries.items l.lines
