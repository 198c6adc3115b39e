use Rattle.ore_parts.proofs.TwoParts.{both_found, first_fails, second_fails}
use Rattle.ore_cert.proofs.WholeLaws.{link_parts}
use Rattle.ore_cert.proofs.bodies.read_link.Goals as goal

pub returns-in_err-l : goal.returns-in_err-l
returns-in_err-l c = first_fails (link_parts c.args.algebra.now.signature.now c.args.algebra.now.names.now c.args.algebra.now.form c.args.algebra.now.count) c.args.lines.now c.read_matrix_part.new.lines c.from_residual.result c.in_err-l.field-0.0 c.from_residual.ensures.1 c.in_err-l.ensures

pub returns-in_err-block : goal.returns-in_err-block
returns-in_err-block c = second_fails (link_parts c.args.algebra.now.signature.now c.args.algebra.now.names.now c.args.algebra.now.form c.args.algebra.now.count) c.args.lines.now c.read_matrix_part.new.lines c.read_exact_part.new.lines c.in_ok-l.l c.from_residual-in_err-block.result c.in_err-block.field-0.0 c.from_residual-in_err-block.ensures.1 c.in_ok-l.ensures c.in_err-block.ensures

pub returns : goal.returns
returns c = both_found (link_parts c.args.algebra.now.signature.now c.args.algebra.now.names.now c.args.algebra.now.form c.args.algebra.now.count) c.args.lines.now c.read_matrix_part.new.lines c.read_exact_part.new.lines c.in_ok-l.l c.in_ok-block.block c.in_ok-l.ensures c.in_ok-block.ensures
