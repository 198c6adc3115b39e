use Rattle.std.proofs.Common.{◌≡◌, ◌++◌, drop}
use Rattle.ore_torsion.proofs.entries.copies.Given as goal

abbrev pub invariant-loop-entry : goal.invariant-loop-entry
invariant-loop-entry g l = l.out.items ++ drop l.entry-index l.entries ≡ l.entries
