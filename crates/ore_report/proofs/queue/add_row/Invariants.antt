use Rattle.std.specs.Prelude.{◌&&◌, ◌||◌, nat_eq, nat_lt}
use Rattle.ore_report.specs.Queue.{AreWaiting}
use Rattle.ore_report.proofs.queue.add_row.Given as goal

-- the first pairs of the row have entered
abbrev pub invariant-loop-i : goal.invariant-loop-i
invariant-loop-i l = AreWaiting l.order l.leads l.listed (λ x y. nat_lt y l.j || (nat_eq y l.j && nat_lt x l.i)) l.places
