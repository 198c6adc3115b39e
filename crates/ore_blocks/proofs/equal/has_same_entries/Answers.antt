use Rattle.std.proofs.Common.{refl}
use Rattle.ore_blocks.proofs.SameFronts.{same_take_more}
use Rattle.ore_blocks.proofs.equal.has_same_entries.Goals as goal

pub loop-k-preserved : goal.loop-k-preserved
loop-k-preserved c =
    same_take_more c.args.a.now c.args.b.now c.loop-k.k c.entry.result.now c.entry-in-loop-k.result.now c.entry.ensures c.entry-in-loop-k.ensures (c.if-not-equal.ensures.0 refl) c.loop-k.invariant
