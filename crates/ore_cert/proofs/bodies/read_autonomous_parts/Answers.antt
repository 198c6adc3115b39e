use Rattle.ore_parts.proofs.TwoParts.{both_found, first_fails, second_fails}
use Rattle.ore_cert.proofs.WholeLaws.{element_parts}
use Rattle.ore_cert.proofs.bodies.read_autonomous_parts.Goals as goal

pub returns-in_err-element : goal.returns-in_err-element
returns-in_err-element c = first_fails (element_parts c.args.algebra.now.signature.now c.args.algebra.now.names.now c.args.algebra.now.form c.args.algebra.now.count) c.args.lines.now c.read_row_part.new.lines c.from_residual.result c.in_err-element.field-0.0 c.from_residual.ensures.1 c.in_err-element.ensures

pub returns-in_err-rest : goal.returns-in_err-rest
returns-in_err-rest c = second_fails (element_parts c.args.algebra.now.signature.now c.args.algebra.now.names.now c.args.algebra.now.form c.args.algebra.now.count) c.args.lines.now c.read_row_part.new.lines c.read_with_operator.new.lines c.in_ok-element.element c.from_residual-in_err-rest.result c.in_err-rest.field-0.0 c.from_residual-in_err-rest.ensures.1 c.in_ok-element.ensures c.in_err-rest.ensures

pub returns : goal.returns
returns c = both_found (element_parts c.args.algebra.now.signature.now c.args.algebra.now.names.now c.args.algebra.now.form c.args.algebra.now.count) c.args.lines.now c.read_row_part.new.lines c.read_with_operator.new.lines c.in_ok-element.element c.in_ok-rest.rest c.in_ok-element.ensures c.in_ok-rest.ensures
