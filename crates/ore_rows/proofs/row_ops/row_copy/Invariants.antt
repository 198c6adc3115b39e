use Rattle.std.proofs.Common.{◌≡◌, ◌++◌, drop}
use Rattle.ore_rows.proofs.row_ops.row_copy.Given as goal

abbrev pub invariant-loop-g : goal.invariant-loop-g
invariant-loop-g g l = l.out.items ++ drop l.g-index l.g-items ≡ l.row
