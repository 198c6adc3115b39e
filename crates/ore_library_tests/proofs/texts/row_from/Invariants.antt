use Rattle.std.specs.List.{All}
use Rattle.ore_ring.specs.Belongs.{Belongs}
use Rattle.ore_library_tests.proofs.texts.row_from.Given as goal

abbrev pub invariant-loop-entry : goal.invariant-loop-entry
invariant-loop-entry g l = All (Belongs (g.R.OreRing.sig l.ring)) l.entries.items
