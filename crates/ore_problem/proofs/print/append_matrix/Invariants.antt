use Rattle.std.proofs.Common.{◌≡◌, ◌++◌, map, drop}
use Rattle.std.specs.List.{flat_map}
use Rattle.ore_text.specs.RowText.{row_text}
use Rattle.ore_rows.specs.Stored.{rows_of, sums_of}
use Rattle.ore_problem.proofs.print.append_matrix.Given as goal

abbrev pub invariant-loop-k : goal.invariant-loop-k
invariant-loop-k l =
    l.text.items ++ flat_map (row_text l.algebra.names.now l.algebra.signature.now.order) (map sums_of (drop l.k l.matrix.rows)) ≡ l.initial.text.items ++ flat_map (row_text l.algebra.names.now l.algebra.signature.now.order) (rows_of l.matrix)
