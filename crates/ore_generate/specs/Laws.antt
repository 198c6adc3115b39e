-- The law of generated problems.
--     GeneratedIsRead    the printed text of a generated problem is read as the problem
use Rattle.std.specs.Prelude.{◌≡◌, ℕ}
use Rattle.std.specs.declared.result.Result.TheVariants.{Ok}
use Rattle.ore_problem.specs.Problems.{problem_of}
use Rattle.ore_problem.specs.ProblemText.{problem_text}
use Rattle.ore_generate.specs.Chain.{generated}

-- for every number
abbrev pub GeneratedIsRead : Type 0
GeneratedIsRead = (n : ℕ) → problem_of (problem_text (generated n)) ≡ Ok (generated n)
