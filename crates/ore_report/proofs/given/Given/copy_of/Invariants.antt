use Rattle.std.proofs.Common.{◌≡◌, take}
use Rattle.ore_report.proofs.given.Given.copy_of.Given as goal

abbrev pub invariant-loop-k : goal.invariant-loop-k
invariant-loop-k l = l.items.items ≡ take l.k l.runs
