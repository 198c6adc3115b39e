use Rattle.std.proofs.Common.{◌<◌, arith}
use Rattle.ore_parts.specs.PartFormats.{step_format}
use Rattle.ore_parts.proofs.FormatReads.{finds_more, none_read, item_fails, all_read}
use Rattle.ore_parts.proofs.PartLaws.{step_is}
use Rattle.ore_parts.proofs.step_lines.read_steps.Goals as goal

pub returns-in_err-step : goal.returns-in_err-step
returns-in_err-step c =
    let few : c.loop.counter < c.args.count = omega arith in
    item_fails (step_format c.args.algebra.now.signature.now c.args.algebra.now.names.now) (step_is c.args.algebra.now.signature.now c.args.algebra.now.names.now c.args.algebra.now.form c.args.algebra.now.count) c.args.lines.now c.loop.lines c.read_step.new.lines c.loop.steps.items c.loop.counter c.args.count c.from_residual.result c.in_err-step.field-0.0
    c.from_residual.ensures.1 c.loop.invariant few c.in_err-step.ensures

pub loop-init : goal.loop-init
loop-init c = none_read (step_format c.args.algebra.now.signature.now c.args.algebra.now.names.now) (step_is c.args.algebra.now.signature.now c.args.algebra.now.names.now c.args.algebra.now.form c.args.algebra.now.count) c.args.lines.now c.new-steps.result.items c.new-steps.ensures.items

pub loop-preserved : goal.loop-preserved
loop-preserved c =
    finds_more (step_format c.args.algebra.now.signature.now c.args.algebra.now.names.now) (step_is c.args.algebra.now.signature.now c.args.algebra.now.names.now c.args.algebra.now.form c.args.algebra.now.count) c.args.lines.now c.loop.lines c.read_step.new.lines c.loop.steps.items c.push.new.self.items c.in_ok-step.step c.loop.counter
    c.loop.invariant c.in_ok-step.ensures c.in_ok-push.ensures.items

pub returns : goal.returns
returns c = all_read (step_format c.args.algebra.now.signature.now c.args.algebra.now.names.now) (step_is c.args.algebra.now.signature.now c.args.algebra.now.names.now c.args.algebra.now.form c.args.algebra.now.count) c.args.lines.now c.loop.lines c.loop.steps.items c.from_vec.result c.loop.counter c.args.count (omega (arith, c.loop.auto.counter-end)) c.from_vec.ensures c.loop.invariant
