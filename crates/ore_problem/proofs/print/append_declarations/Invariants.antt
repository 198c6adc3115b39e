use Rattle.std.proofs.Common.{◌≡◌, ◌++◌, drop}
use Rattle.std.specs.List.{flat_map, zip}
use Rattle.ore_problem.specs.ProblemText.{declaration_text}
use Rattle.ore_problem.proofs.print.append_declarations.Given as goal

abbrev pub invariant-loop-k : goal.invariant-loop-k
invariant-loop-k l =
    l.text.items ++ flat_map (declaration_text l.algebra.names.now) (zip (drop l.k l.algebra.names.now) (drop l.k l.algebra.signature.now.kinds)) ≡ l.initial.text.items ++ flat_map (declaration_text l.algebra.names.now) (zip l.algebra.names.now l.algebra.signature.now.kinds)
