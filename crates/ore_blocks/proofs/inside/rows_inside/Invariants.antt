use Rattle.std.proofs.Common.{◌≡◌, drop}
use Rattle.ore_algebra.specs.Limits.{program}
use Rattle.ore_rows.specs.Stored.{rows_of}
use Rattle.ore_blocks.specs.CheckBlock.{rows_inside}
use Rattle.ore_blocks.proofs.inside.rows_inside.Given as goal

abbrev pub invariant-loop-i : goal.invariant-loop-i
invariant-loop-i g l = rows_inside program (g.R.OreRing.sig l.ring) l.to.cols (rows_of l.to) (rows_of l.m) l.section l.i (drop l.i (rows_of l.from)) (drop l.i (rows_of l.inside))
    ≡ rows_inside program (g.R.OreRing.sig l.ring) l.to.cols (rows_of l.to) (rows_of l.m) l.section 0 (rows_of l.from) (rows_of l.inside)
