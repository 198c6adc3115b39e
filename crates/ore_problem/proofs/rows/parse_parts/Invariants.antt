use Rattle.std.proofs.Common.{◌≡◌, length, map, drop}
use Rattle.std.specs.List.{All}
use Rattle.ore_expr.specs.Evaluation.{IsOf}
use Rattle.ore_problem.specs.Problems.{parsed}
use Rattle.ore_problem.proofs.RowLemmas.{before}
use Rattle.ore_problem.proofs.rows.parse_parts.Given as goal

abbrev pub invariant-loop-part : goal.invariant-loop-part
invariant-loop-part l = record {
  reads : before (map (λ p. p.items) l.programs.items) (parsed l.names l.line (map (λ w. w.now) (drop l.part-index l.parts))) ≡ parsed l.names l.line (map (λ w. w.now) l.parts);
  of : All (λ p. All (IsOf (length l.names)) p.items) l.programs.items;
  wide : length l.programs.items ≡ l.part-index;
}
