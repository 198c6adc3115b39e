use Rattle.std.proofs.Common.{◌≡◌, ◌≤◌, ◌+◌, ◌++◌, length, map}
use Rattle.std.specs.Vec.Iter.{into_iter_items}
use Rattle.ore_blocks.specs.BlockOfRun.{stored_entry}
use Rattle.ore_groebner.specs.RunProgress.{entries_from}
use Rattle.ore_syzygy.proofs.pairs.entries.Given as goal

abbrev pub invariant-loop-event : goal.invariant-loop-event
invariant-loop-event l = record {
  made : map stored_entry (entries_from l.first l.fn.events) ≡ l.out.items ++ map stored_entry (entries_from l.next (into_iter_items l.event-iterator));
  few : l.next + length (into_iter_items l.event-iterator) ≤ l.first + length l.fn.events;
}
