use Rattle.std.proofs.Common.{◌≡◌, drop}
use Rattle.ore_algebra.specs.Limits.{program}
use Rattle.ore_rows.specs.Stored.{rows_of}
use Rattle.ore_blocks.specs.CheckBlock.{rows_give}
use Rattle.ore_blocks.proofs.products.rows_give.Given as goal

abbrev pub invariant-loop-k : goal.invariant-loop-k
invariant-loop-k g l = rows_give program (g.R.OreRing.sig l.ring) l.reason l.m.cols (rows_of l.m) l.section l.name l.k (drop l.k (rows_of l.rows)) (drop l.k (rows_of l.wanted))
    ≡ rows_give program (g.R.OreRing.sig l.ring) l.reason l.m.cols (rows_of l.m) l.section l.name 0 (rows_of l.rows) (rows_of l.wanted)
