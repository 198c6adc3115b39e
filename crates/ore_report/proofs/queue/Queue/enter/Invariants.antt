use Rattle.std.proofs.Common.{◌≡◌}
use Rattle.ore_report.specs.Queue.{IsQueue}
use Rattle.ore_report.proofs.queue.Queue.enter.Given as goal

abbrev pub invariant-loop-j : goal.invariant-loop-j
invariant-loop-j l = record {
  queue : IsQueue l.order l.leads l.listed l.self.rows l.self.places;
  next : l.self.rows ≡ l.j;
}
