use Rattle.std.proofs.Common.{◌≡◌, length, map, drop}
use Rattle.std.specs.List.{All}
use Rattle.ore_ring.specs.Belongs.{Belongs}
use Rattle.ore_rows.specs.Stored.{sums_of}
use Rattle.ore_problem.specs.Problems.{evaluated}
use Rattle.ore_problem.proofs.RowLemmas.{before}
use Rattle.ore_problem.proofs.rows.evaluate_programs.Given as goal

abbrev pub invariant-loop-instructions : goal.invariant-loop-instructions
invariant-loop-instructions l = record {
  reads : before (sums_of l.entries.items) (evaluated l.ring l.line (map (λ p. p.items) (drop l.instructions-index l.programs))) ≡ evaluated l.ring l.line (map (λ p. p.items) l.programs);
  of : All (Belongs l.ring) l.entries.items;
  wide : length l.entries.items ≡ l.instructions-index;
}
