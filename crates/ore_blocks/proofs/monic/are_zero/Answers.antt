use Rattle.std.proofs.Common.{sym, ap, ◌∙◌, ◌&&◌, ◌≤◌, drop, ◌+◌, length, arith}
use Rattle.ore_algebra.specs.Limits.{program}
use Rattle.ore_rows.specs.Stored.{rows_of}
use Rattle.ore_blocks.specs.CheckBlock.{are_zero}
use Rattle.ore_blocks.proofs.GivenRows.{zeros_next, zeros_end}
use Rattle.ore_blocks.proofs.monic.are_zero.Goals as goal

pub returns-then-not-is_zero : goal.returns-then-not-is_zero
returns-then-not-is_zero c =
    let s = c.args.sig.now in
    sym (sym c.loop-k.invariant ∙ zeros_next program s c.args.m.now c.loop-k.k c.row.result.now c.row.ensures.value ∙ ap (λ b. b && are_zero program s (drop (c.loop-k.k + 1) (rows_of c.args.m.now))) (sym (c.if-not-is_zero.ensures {u = tt})))

pub loop-k-preserved : goal.loop-k-preserved
loop-k-preserved c =
    let s = c.args.sig.now in
    sym (zeros_next program s c.args.m.now c.loop-k.k c.row.result.now c.row.ensures.value ∙ ap (λ b. b && are_zero program s (drop (c.loop-k.k + 1) (rows_of c.args.m.now))) (sym (c.if-not-is_zero.ensures {u = tt})))
    ∙ c.loop-k.invariant

pub returns : goal.returns
returns c =
    let past : length c.args.m.now.rows ≤ c.loop-k.k = omega arith in
    sym (sym c.loop-k.invariant ∙ zeros_end program c.args.sig.now c.args.m.now c.loop-k.k past)
