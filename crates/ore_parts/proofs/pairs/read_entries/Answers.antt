use Rattle.std.proofs.Common.{◌<◌, arith}
use Rattle.ore_parts.specs.PartFormats.{entry_format}
use Rattle.ore_parts.proofs.FormatReads.{finds_more, none_read, item_fails, all_read}
use Rattle.ore_parts.proofs.PartLaws.{entry_is}
use Rattle.ore_parts.proofs.pairs.read_entries.Goals as goal

pub returns-in_err-entry : goal.returns-in_err-entry
returns-in_err-entry c =
    let few : c.loop.counter < c.args.count = omega arith in
    item_fails (entry_format c.args.algebra.now.signature.now c.args.algebra.now.names.now) (entry_is c.args.algebra.now.signature.now c.args.algebra.now.names.now c.args.algebra.now.form c.args.algebra.now.count) c.args.lines.now c.loop.lines c.read_entry.new.lines c.loop.entries.items c.loop.counter c.args.count c.from_residual.result c.in_err-entry.field-0.0
    c.from_residual.ensures.1 c.loop.invariant few c.in_err-entry.ensures

pub loop-init : goal.loop-init
loop-init c = none_read (entry_format c.args.algebra.now.signature.now c.args.algebra.now.names.now) (entry_is c.args.algebra.now.signature.now c.args.algebra.now.names.now c.args.algebra.now.form c.args.algebra.now.count) c.args.lines.now c.new-entries.result.items c.new-entries.ensures.items

pub loop-preserved : goal.loop-preserved
loop-preserved c =
    finds_more (entry_format c.args.algebra.now.signature.now c.args.algebra.now.names.now) (entry_is c.args.algebra.now.signature.now c.args.algebra.now.names.now c.args.algebra.now.form c.args.algebra.now.count) c.args.lines.now c.loop.lines c.read_entry.new.lines c.loop.entries.items c.push.new.self.items c.in_ok-entry.entry c.loop.counter
    c.loop.invariant c.in_ok-entry.ensures c.in_ok-push.ensures.items

pub returns : goal.returns
returns c = all_read (entry_format c.args.algebra.now.signature.now c.args.algebra.now.names.now) (entry_is c.args.algebra.now.signature.now c.args.algebra.now.names.now c.args.algebra.now.form c.args.algebra.now.count) c.args.lines.now c.loop.lines c.loop.entries.items c.from_vec.result c.loop.counter c.args.count (omega (arith, c.loop.auto.counter-end)) c.from_vec.ensures c.loop.invariant
