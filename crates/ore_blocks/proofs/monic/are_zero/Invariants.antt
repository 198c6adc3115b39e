use Rattle.std.proofs.Common.{◌≡◌, drop}
use Rattle.ore_algebra.specs.Limits.{program}
use Rattle.ore_rows.specs.Stored.{rows_of}
use Rattle.ore_blocks.specs.CheckBlock.{are_zero}
use Rattle.ore_blocks.proofs.monic.are_zero.Given as goal

abbrev pub invariant-loop-k : goal.invariant-loop-k
invariant-loop-k l = are_zero program l.sig (drop l.k (rows_of l.m)) ≡ are_zero program l.sig (rows_of l.m)
