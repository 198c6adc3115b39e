use Rattle.ore_parts.specs.Formats.{Finds, items}
use Rattle.ore_cert.specs.WholeFormats.{link_format}
use Rattle.ore_cert.proofs.bodies.read_links.Given as goal

abbrev pub invariant-loop : goal.invariant-loop
invariant-loop l = Finds (items (link_format l.algebra.signature.now l.algebra.names.now) l.counter) l.initial.lines l.links.items l.lines
