use Rattle.std.proofs.Common.{◌≡◌, ◌<◌, ℕ, false}
use Rattle.ore_pairs.specs.PairRule.{may_treat}
use Rattle.ore_report.proofs.pairs.some_partner.Given as goal

abbrev pub invariant-loop-j : goal.invariant-loop-j
invariant-loop-j l = (k : ℕ) → k < l.j → may_treat l.leads l.listed l.i k ≡ false
