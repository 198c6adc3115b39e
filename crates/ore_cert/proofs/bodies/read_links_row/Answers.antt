use Rattle.ore_parts.proofs.TwoParts.{both_found, first_fails, second_fails}
use Rattle.ore_cert.proofs.WholeLaws.{links_row_parts}
use Rattle.ore_cert.proofs.bodies.read_links_row.Goals as goal

pub returns-in_err-links : goal.returns-in_err-links
returns-in_err-links c = first_fails (links_row_parts c.args.algebra.now.signature.now c.args.algebra.now.names.now c.args.algebra.now.form c.args.algebra.now.count c.args.count) c.args.lines.now c.read_links.new.lines c.from_residual.result c.in_err-links.field-0.0 c.from_residual.ensures.1 c.in_err-links.ensures

pub returns-in_err-rest : goal.returns-in_err-rest
returns-in_err-rest c = second_fails (links_row_parts c.args.algebra.now.signature.now c.args.algebra.now.names.now c.args.algebra.now.form c.args.algebra.now.count c.args.count) c.args.lines.now c.read_links.new.lines c.read_with_row.new.lines c.in_ok-links.links c.from_residual-in_err-rest.result c.in_err-rest.field-0.0 c.from_residual-in_err-rest.ensures.1 c.in_ok-links.ensures c.in_err-rest.ensures

pub returns : goal.returns
returns c = both_found (links_row_parts c.args.algebra.now.signature.now c.args.algebra.now.names.now c.args.algebra.now.form c.args.algebra.now.count c.args.count) c.args.lines.now c.read_links.new.lines c.read_with_row.new.lines c.in_ok-links.links c.in_ok-rest.rest c.in_ok-links.ensures c.in_ok-rest.ensures
