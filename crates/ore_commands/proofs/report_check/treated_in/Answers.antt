use Rattle.std.proofs.Common.{◌≡◌, ◌+◌, ◌≤◌, length, ap, arith}
use Rattle.ore_course.specs.Choices.{treatment_count_in}
use Rattle.ore_pairs.specs.Runner.{treats_pair}
use Rattle.ore_check.specs.Check.{capped}
use Rattle.ore_commands.proofs.ReportLines.{treated_step, treated_end}
use Rattle.ore_commands.proofs.report_check.treated_in.Goals as goal

pub loop-k-init : goal.loop-k-init
loop-k-init c =
    let none : 0 + treatment_count_in treats_pair c.args.runs.now ≡ treatment_count_in treats_pair c.args.runs.now = omega arith in (omega arith, ap capped none)

pub loop-k-preserved : goal.loop-k-preserved
loop-k-preserved c =
    let sum = c.saturating_add-treated.ensures in (
      omega (arith, sum),
      rw (sum) (treated_step c.args.runs.now c.loop-k.k c.get.result.now c.get.ensures c.loop-k.treated c.treated_by.result _ c.treated_by.ensures c.loop-k.invariant.1),
    )

pub returns : goal.returns
returns c =
    let past : length c.args.runs.now ≤ c.loop-k.k = omega (arith, c.len-k-end.ensures.count, c.loop-k-test.false) in
    treated_end c.args.runs.now c.loop-k.k c.loop-k.treated _ past c.loop-k.invariant.0 c.loop-k.invariant.1
