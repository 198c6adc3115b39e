use Rattle.std.proofs.Common.{◌≤◌, length, sym, ◌∙◌, arith}
use Rattle.ore_check.proofs.LineCounts.{before_next, before_all, before_none}
use Rattle.ore_check.proofs.layout.lines_before.Goals as goal

pub loop-n-init : goal.loop-n-init
loop-n-init c = record { told = sym (before_none c.args.pairs.now); few = omega arith; within = omega arith }

pub loop-n-preserved : goal.loop-n-preserved
loop-n-preserved c =
    let next = before_next c.args.pairs.now c.loop-n.n c.get.result.now c.get.ensures in
    let told = c.loop-n.invariant.told in
    let few = c.loop-n.invariant.few in
    let within = c.loop-n.invariant.within in
    let value = c.entry_lines-lines.ensures.value in
    let low = c.entry_lines-lines.ensures.low in
    record { told = omega arith; few = omega arith; within = omega arith }

pub returns-then-n-len-clause-value : goal.returns-then-n-len-clause-value
returns-then-n-len-clause-value c =
    let past : length c.args.pairs.now ≤ c.loop-n.n = omega arith in
    let more : c.loop-n.n ≤ c.args.k = omega arith in
    c.loop-n.invariant.told ∙ before_all c.args.pairs.now c.loop-n.n c.args.k past more
