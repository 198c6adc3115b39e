use Rattle.ore_parts.specs.Formats.{Finds, items}
use Rattle.ore_parts.specs.PartFormats.{step_format}
use Rattle.ore_parts.proofs.step_lines.read_steps.Given as goal

abbrev pub invariant-loop : goal.invariant-loop
invariant-loop l = Finds (items (step_format l.algebra.signature.now l.algebra.names.now) l.counter) l.initial.lines l.steps.items l.lines
