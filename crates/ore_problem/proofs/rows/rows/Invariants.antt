use Rattle.std.proofs.Common.{◌≡◌, ◌-◌, map}
use Rattle.std.specs.List.{All}
use Rattle.ore_ring.specs.Belongs.{Belongs}
use Rattle.ore_rows.specs.Stored.{HasColumns, sums_of}
use Rattle.ore_problem.specs.Problems.{rows_after}
use Rattle.ore_problem.specs.Reader.{cursor_of}
use Rattle.ore_problem.proofs.RowLemmas.{rows_before}
use Rattle.ore_problem.proofs.rows.rows.Given as goal

abbrev pub invariant-loop-k : goal.invariant-loop-k
invariant-loop-k l = record {
  reads : rows_before (map sums_of l.rows.items) (rows_after l.frame l.cols (l.count - l.k) (cursor_of l.lines)) ≡ rows_after l.frame l.cols l.count (cursor_of l.initial.lines);
  of : All (All (Belongs l.frame.signature)) l.rows.items;
  wide : HasColumns l.cols l.rows.items;
  same : l.lines.text ≡ l.initial.lines.text;
}
