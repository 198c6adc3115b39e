use Rattle.std.proofs.Common.{◌≡◌, ◌++◌, length}
use Rattle.ore_ring.specs.Gathered.{drained}
use Rattle.ore_ring.specs.IsGathered.{keyed_terms}
use Rattle.ore_ring.proofs.gather.Gather.finish.Given as goal

abbrev pub invariant-loop-t : goal.invariant-loop-t
invariant-loop-t l = l.out.items ++ drained (keyed_terms l.map.entries) ≡ drained (keyed_terms l.initial.map.entries)

abbrev pub decreases-loop-t : goal.decreases-loop-t
decreases-loop-t l = length l.map.entries
