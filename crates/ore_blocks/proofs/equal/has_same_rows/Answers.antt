use Rattle.std.proofs.Common.{refl}
use Rattle.ore_blocks.proofs.SameFronts.{same_take_more}
use Rattle.ore_blocks.proofs.equal.has_same_rows.Goals as goal

pub loop-k-preserved : goal.loop-k-preserved
loop-k-preserved c =
    same_take_more c.args.a.now.rows c.args.b.now.rows c.loop-k.k c.row.result.now c.row-in-loop-k.result.now c.row.ensures.value c.row-in-loop-k.ensures.value (c.if-not-has_same_entries.ensures.0 refl) c.loop-k.invariant
