use Rattle.ore_parts.proofs.TwoParts.{both_found, first_fails, second_fails}
use Rattle.ore_cert.proofs.WholeLaws.{row_and_outside_parts}
use Rattle.ore_cert.proofs.bodies.read_with_row.Goals as goal

pub returns-in_err-row : goal.returns-in_err-row
returns-in_err-row c = first_fails (row_and_outside_parts c.args.algebra.now.signature.now c.args.algebra.now.names.now c.args.algebra.now.form c.args.algebra.now.count c.args.name.now c.requires) c.args.lines.now c.read_row_part.new.lines c.from_residual.result c.in_err-row.field-0.0 c.from_residual.ensures.1 c.in_err-row.ensures

pub returns-in_err-block : goal.returns-in_err-block
returns-in_err-block c = second_fails (row_and_outside_parts c.args.algebra.now.signature.now c.args.algebra.now.names.now c.args.algebra.now.form c.args.algebra.now.count c.args.name.now c.requires) c.args.lines.now c.read_row_part.new.lines c.read_outside_part.new.lines c.in_ok-row.row c.from_residual-in_err-block.result c.in_err-block.field-0.0 c.from_residual-in_err-block.ensures.1 c.in_ok-row.ensures c.in_err-block.ensures

pub returns : goal.returns
returns c = both_found (row_and_outside_parts c.args.algebra.now.signature.now c.args.algebra.now.names.now c.args.algebra.now.form c.args.algebra.now.count c.args.name.now c.requires) c.args.lines.now c.read_row_part.new.lines c.read_outside_part.new.lines c.in_ok-row.row c.in_ok-block.block c.in_ok-row.ensures c.in_ok-block.ensures
