use Rattle.std.proofs.Common.{◌≡◌, ◌++◌, map}
use Rattle.std.specs.Vec.Iter.{into_iter_items}
use Rattle.ore_rows.proofs.basis.parted.Given as goal

abbrev pub invariant-loop-entry : goal.invariant-loop-entry
invariant-loop-entry l = record {
  rows : map (λ e. e.row) l.fn.entries.items ≡ l.rows.items ++ map (λ e. e.row) (into_iter_items l.entry-iterator);
  cofactors : map (λ e. e.cofactor) l.fn.entries.items ≡ l.cofactors.items ++ map (λ e. e.cofactor) (into_iter_items l.entry-iterator);
}
