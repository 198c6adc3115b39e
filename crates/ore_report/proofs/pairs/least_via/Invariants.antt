use Rattle.std.proofs.Common.{◌≡◌, ◌<◌, ℕ, false}
use Rattle.ore_pairs.specs.PairRule.{may_skip}
use Rattle.ore_report.proofs.pairs.least_via.Given as goal

abbrev pub invariant-loop-via : goal.invariant-loop-via
invariant-loop-via l = (k : ℕ) → k < l.via → may_skip l.leads l.listed l.i l.j k ≡ false
