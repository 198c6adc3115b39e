use Rattle.std.proofs.Common.{◌≤◌, length, arith}
use Rattle.ore_blocks.proofs.Entries.{treated_next, treated_end}
use Rattle.ore_blocks.proofs.pairs.treated_count.Goals as goal

pub loop-k-preserved : goal.loop-k-preserved
loop-k-preserved c =
    let e = treated_next c.args.pairs.now c.loop-k.k c.get.result.now c.get.ensures in
    let told = c.loop-k.invariant.told in
    let taken = c.rows_taken-treated.ensures.value in
    let small = c.rows_taken-treated.ensures.small in
    let few = c.loop-k.invariant.few in
    record { told = omega arith; few = omega arith }

pub returns : goal.returns
returns c =
    let past : length c.args.pairs.now ≤ c.loop-k.k = omega arith in
    let e = treated_end c.args.pairs.now c.loop-k.k past in
    let told = c.loop-k.invariant.told in
    omega arith
