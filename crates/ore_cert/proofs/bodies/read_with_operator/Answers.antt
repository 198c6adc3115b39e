use Rattle.ore_parts.proofs.TwoParts.{both_found, first_fails, second_fails}
use Rattle.ore_cert.proofs.WholeLaws.{with_operator_parts}
use Rattle.ore_cert.proofs.bodies.read_with_operator.Goals as goal

pub returns-in_err-operator : goal.returns-in_err-operator
returns-in_err-operator c = first_fails (with_operator_parts c.args.algebra.now.signature.now c.args.algebra.now.names.now c.args.algebra.now.form c.args.algebra.now.count) c.args.lines.now c.read_operator_line.new.lines c.from_residual.result c.in_err-operator.field-0.0 c.from_residual.ensures.1 c.in_err-operator.ensures

pub returns-in_err-rest : goal.returns-in_err-rest
returns-in_err-rest c = second_fails (with_operator_parts c.args.algebra.now.signature.now c.args.algebra.now.names.now c.args.algebra.now.form c.args.algebra.now.count) c.args.lines.now c.read_operator_line.new.lines c.read_with_row.new.lines c.in_ok-operator.operator c.from_residual-in_err-rest.result c.in_err-rest.field-0.0 c.from_residual-in_err-rest.ensures.1 c.in_ok-operator.ensures c.in_err-rest.ensures

pub returns : goal.returns
returns c = both_found (with_operator_parts c.args.algebra.now.signature.now c.args.algebra.now.names.now c.args.algebra.now.form c.args.algebra.now.count) c.args.lines.now c.read_operator_line.new.lines c.read_with_row.new.lines c.in_ok-operator.operator c.in_ok-rest.rest c.in_ok-operator.ensures c.in_ok-rest.ensures
