use Rattle.std.proofs.Common.{◌≡◌, drop}
use Rattle.ore_algebra.specs.Limits.{program}
use Rattle.ore_rows.specs.Stored.{rows_of}
use Rattle.ore_blocks.specs.CheckBlock.{check_entries, check_pairs}
use Rattle.ore_blocks.proofs.pairs.check_pairs.Given as goal

abbrev pub invariant-loop-k : goal.invariant-loop-k
invariant-loop-k g l = check_entries program (g.R.OreRing.sig l.ring) (rows_of l.basis) l.leads l.section l.k l.listed (drop l.k l.pairs) ≡ check_pairs program (g.R.OreRing.sig l.ring) (rows_of l.basis) l.leads l.section l.pairs
