use Rattle.ore_parts.proofs.TwoParts.{both_found, first_fails, second_fails}
use Rattle.ore_cert.proofs.WholeLaws.{with_unit_parts}
use Rattle.ore_cert.proofs.bodies.read_with_unit.Goals as goal

pub returns-in_err-unit : goal.returns-in_err-unit
returns-in_err-unit c = first_fails (with_unit_parts c.args.algebra.now.signature.now c.args.algebra.now.names.now c.args.algebra.now.form c.args.algebra.now.count) c.args.lines.now c.read_unit.new.lines c.from_residual.result c.in_err-unit.field-0.0 c.from_residual.ensures.1 c.in_err-unit.ensures

pub returns-in_err-block : goal.returns-in_err-block
returns-in_err-block c = second_fails (with_unit_parts c.args.algebra.now.signature.now c.args.algebra.now.names.now c.args.algebra.now.form c.args.algebra.now.count) c.args.lines.now c.read_unit.new.lines c.read_outside_part.new.lines c.in_ok-unit.unit c.from_residual-in_err-block.result c.in_err-block.field-0.0 c.from_residual-in_err-block.ensures.1 c.in_ok-unit.ensures c.in_err-block.ensures

pub returns : goal.returns
returns c = both_found (with_unit_parts c.args.algebra.now.signature.now c.args.algebra.now.names.now c.args.algebra.now.form c.args.algebra.now.count) c.args.lines.now c.read_unit.new.lines c.read_outside_part.new.lines c.in_ok-unit.unit c.in_ok-block.block c.in_ok-unit.ensures c.in_ok-block.ensures
