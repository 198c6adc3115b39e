use Rattle.std.proofs.Common.{◌<◌, arith}
use Rattle.ore_parts.proofs.FormatReads.{finds_more, none_read, item_fails, all_read}
use Rattle.ore_cert.specs.WholeFormats.{link_format}
use Rattle.ore_cert.proofs.WholeLaws.{link_is}
use Rattle.ore_cert.proofs.bodies.read_links.Goals as goal

pub returns-in_err-link : goal.returns-in_err-link
returns-in_err-link c =
    let few : c.loop.counter < c.args.count = omega arith in
    item_fails (link_format c.args.algebra.now.signature.now c.args.algebra.now.names.now) (link_is c.args.algebra.now.signature.now c.args.algebra.now.names.now c.args.algebra.now.form c.args.algebra.now.count) c.args.lines.now c.loop.lines c.read_link.new.lines c.loop.links.items c.loop.counter c.args.count c.from_residual.result c.in_err-link.field-0.0 c.from_residual.ensures.1 c.loop.invariant few c.in_err-link.ensures

pub loop-init : goal.loop-init
loop-init c = none_read (link_format c.args.algebra.now.signature.now c.args.algebra.now.names.now) (link_is c.args.algebra.now.signature.now c.args.algebra.now.names.now c.args.algebra.now.form c.args.algebra.now.count) c.args.lines.now c.new-links.result.items c.new-links.ensures.items

pub loop-preserved : goal.loop-preserved
loop-preserved c = finds_more (link_format c.args.algebra.now.signature.now c.args.algebra.now.names.now) (link_is c.args.algebra.now.signature.now c.args.algebra.now.names.now c.args.algebra.now.form c.args.algebra.now.count) c.args.lines.now c.loop.lines c.read_link.new.lines c.loop.links.items c.push.new.self.items c.in_ok-link.link c.loop.counter c.loop.invariant c.in_ok-link.ensures c.in_ok-push.ensures.items

pub returns : goal.returns
returns c = all_read (link_format c.args.algebra.now.signature.now c.args.algebra.now.names.now) (link_is c.args.algebra.now.signature.now c.args.algebra.now.names.now c.args.algebra.now.form c.args.algebra.now.count) c.args.lines.now c.loop.lines c.loop.links.items c.from_vec.result c.loop.counter c.args.count (omega (arith, c.loop.auto.counter-end)) c.from_vec.ensures c.loop.invariant
