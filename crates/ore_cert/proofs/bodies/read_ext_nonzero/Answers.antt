use Rattle.ore_cert.specs.declared.kind.Kind.TheVariants.{ExtNonzero}
use Rattle.ore_cert.proofs.WholeLaws.{body_found, body_fails}
use Rattle.ore_cert.proofs.bodies.read_ext_nonzero.Goals as goal

pub returns-in_err-links : goal.returns-in_err-links
returns-in_err-links c = body_fails c.args.algebra.now.signature.now c.args.algebra.now.names.now c.args.algebra.now.form c.args.algebra.now.count (ExtNonzero c.args.count) c.args.lines.now c.read_links_row.new.lines c.from_residual.result c.in_err-links.field-0.0 c.from_residual.ensures.1 c.in_err-links.ensures

pub returns : goal.returns
returns c = body_found c.args.algebra.now.signature.now c.args.algebra.now.names.now c.args.algebra.now.form c.args.algebra.now.count (ExtNonzero c.args.count) c.args.lines.now (c.in_ok-links.links, (c.in_ok-links.element, c.in_ok-links.block)) c.read_links_row.new.lines c.in_ok-links.ensures
