use Rattle.std.proofs.Common.{◌<◌, ◌≤◌, length, ◌∙◌, arith}
use Rattle.ore_text.proofs.NumberLines.{line_first, line_next, line_last}
use Rattle.ore_text.proofs.print.append_line.Goals as goal

pub loop-number-init : goal.loop-number-init
loop-number-init c = line_first c.args.word.now c.args.numbers.now c.args.text.now.items c.extend_from_slice.new.self.items c.in_ok-extend_from_slice.ensures.items

pub loop-number-preserved : goal.loop-number-preserved
loop-number-preserved c =
    let within : c.loop-number.number-index < length c.args.numbers.now = omega arith in
    line_next c.args.numbers.now c.loop-number.text.items c.append_spaced.new.text.items c.loop-number.number-index 0 within c.in_ok-append_spaced.ensures
    ∙ c.loop-number.invariant

pub returns : goal.returns
returns c =
    let past : length c.args.numbers.now ≤ c.loop-number.number-index = omega arith in
    line_last c.args.word.now c.args.numbers.now c.args.text.now.items c.loop-number.text.items c.push.new.self.items c.loop-number.number-index past c.loop-number.invariant c.in_ok-push.ensures.items
