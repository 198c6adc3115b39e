use Rattle.std.proofs.Common.{◌<◌, arith}
use Rattle.ore_parts.proofs.FormatReads.{finds_more, none_read, item_fails, all_read}
use Rattle.ore_cert.specs.ReportFormats.{choice_format}
use Rattle.ore_cert.proofs.ReportLaws.{choice_is}
use Rattle.ore_cert.proofs.report_lines.read_choices.Goals as goal

pub returns-in_err-choice : goal.returns-in_err-choice
returns-in_err-choice c =
    let few : c.loop.counter < c.args.count = omega arith in
    item_fails choice_format choice_is c.args.lines.now c.loop.lines c.read_choice.new.lines c.loop.choices.items c.loop.counter c.args.count c.from_residual.result c.in_err-choice.field-0.0 c.from_residual.ensures.1 c.loop.invariant few c.in_err-choice.ensures

pub loop-init : goal.loop-init
loop-init c = none_read choice_format choice_is c.args.lines.now c.new-choices.result.items c.new-choices.ensures.items

pub loop-preserved : goal.loop-preserved
loop-preserved c = finds_more choice_format choice_is c.args.lines.now c.loop.lines c.read_choice.new.lines c.loop.choices.items c.push.new.self.items c.in_ok-choice.choice c.loop.counter c.loop.invariant c.in_ok-choice.ensures c.in_ok-push.ensures.items

pub returns : goal.returns
returns c = all_read choice_format choice_is c.args.lines.now c.loop.lines c.loop.choices.items c.from_vec.result c.loop.counter c.args.count (omega (arith, c.loop.auto.counter-end)) c.from_vec.ensures c.loop.invariant
