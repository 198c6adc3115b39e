use Rattle.ore_cert.specs.declared.kind.Kind.TheVariants.{AutonomousElement}
use Rattle.ore_cert.proofs.WholeLaws.{body_found, body_fails}
use Rattle.ore_cert.proofs.bodies.read_autonomous.Goals as goal

pub returns-in_err-element : goal.returns-in_err-element
returns-in_err-element c = body_fails c.args.algebra.now.signature.now c.args.algebra.now.names.now c.args.algebra.now.form c.args.algebra.now.count AutonomousElement c.args.lines.now c.read_autonomous_parts.new.lines c.from_residual.result c.in_err-element.field-0.0 c.from_residual.ensures.1 c.in_err-element.ensures

pub returns : goal.returns
returns c = body_found c.args.algebra.now.signature.now c.args.algebra.now.names.now c.args.algebra.now.form c.args.algebra.now.count AutonomousElement c.args.lines.now (c.in_ok-element.element, (c.in_ok-element.operator, (c.in_ok-element.cofactor, c.in_ok-element.block))) c.read_autonomous_parts.new.lines c.in_ok-element.ensures
