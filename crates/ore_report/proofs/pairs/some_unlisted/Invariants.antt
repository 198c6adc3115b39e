use Rattle.std.proofs.Common.{◌≡◌, ◌<◌, ℕ, false, length}
use Rattle.std.specs.List.{list_any, range_with_len}
use Rattle.ore_pairs.specs.PairRule.{may_treat}
use Rattle.ore_report.proofs.pairs.some_unlisted.Given as goal

abbrev pub invariant-loop-i : goal.invariant-loop-i
invariant-loop-i l = (k : ℕ) → k < l.i → list_any (may_treat l.leads l.listed k) (range_with_len 0 (length l.leads)) ≡ false
