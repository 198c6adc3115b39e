use Rattle.std.proofs.Common.{◌≡◌, ◌≤◌, ◌+◌, drop}
use Rattle.ore_groebner.specs.RunProgress.{new_rows}
use Rattle.ore_syzygy.proofs.pairs.count_new.Given as goal

abbrev pub invariant-loop-k : goal.invariant-loop-k
invariant-loop-k l = record { counted : l.count + new_rows (drop l.k l.events) ≡ new_rows l.events; few : l.count ≤ l.k }
