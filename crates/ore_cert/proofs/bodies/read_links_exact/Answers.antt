use Rattle.ore_parts.proofs.TwoParts.{both_found, first_fails, second_fails}
use Rattle.ore_cert.proofs.WholeLaws.{links_exact_parts}
use Rattle.ore_cert.proofs.bodies.read_links_exact.Goals as goal

pub returns-in_err-links : goal.returns-in_err-links
returns-in_err-links c = first_fails (links_exact_parts c.args.algebra.now.signature.now c.args.algebra.now.names.now c.args.algebra.now.form c.args.algebra.now.count c.args.count) c.args.lines.now c.read_links.new.lines c.from_residual.result c.in_err-links.field-0.0 c.from_residual.ensures.1 c.in_err-links.ensures

pub returns-in_err-block : goal.returns-in_err-block
returns-in_err-block c = second_fails (links_exact_parts c.args.algebra.now.signature.now c.args.algebra.now.names.now c.args.algebra.now.form c.args.algebra.now.count c.args.count) c.args.lines.now c.read_links.new.lines c.read_exact_part.new.lines c.in_ok-links.links c.from_residual-in_err-block.result c.in_err-block.field-0.0 c.from_residual-in_err-block.ensures.1 c.in_ok-links.ensures c.in_err-block.ensures

pub returns : goal.returns
returns c = both_found (links_exact_parts c.args.algebra.now.signature.now c.args.algebra.now.names.now c.args.algebra.now.form c.args.algebra.now.count c.args.count) c.args.lines.now c.read_links.new.lines c.read_exact_part.new.lines c.in_ok-links.links c.in_ok-block.block c.in_ok-links.ensures c.in_ok-block.ensures
