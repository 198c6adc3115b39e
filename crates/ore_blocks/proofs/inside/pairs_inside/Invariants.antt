use Rattle.std.proofs.Common.{◌≡◌, drop}
use Rattle.ore_algebra.specs.Limits.{program}
use Rattle.ore_rows.specs.Stored.{rows_of}
use Rattle.ore_blocks.specs.CheckBlock.{pairs_inside}
use Rattle.ore_blocks.proofs.inside.pairs_inside.Given as goal

abbrev pub invariant-loop-k : goal.invariant-loop-k
invariant-loop-k g l = pairs_inside program (g.R.OreRing.sig l.ring) l.to.cols l.leads (rows_of l.to) (rows_of l.m) l.section l.next (drop l.k l.pairs) (drop l.next (rows_of l.inside))
    ≡ pairs_inside program (g.R.OreRing.sig l.ring) l.to.cols l.leads (rows_of l.to) (rows_of l.m) l.section l.first l.pairs (drop l.first (rows_of l.inside))
