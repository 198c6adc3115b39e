use Rattle.std.proofs.Common.{◌≡◌, ◌+◌, ◌≤◌, drop}
use Rattle.ore_course.specs.Choices.{treatment_count_in}
use Rattle.ore_pairs.specs.Runner.{treats_pair}
use Rattle.ore_check.specs.Check.{capped}
use Rattle.ore_commands.proofs.report_check.treated_in.Given as goal

abbrev pub invariant-loop-k : goal.invariant-loop-k
invariant-loop-k l = (l.treated ≤ 18446744073709551615) × (capped (l.treated + treatment_count_in treats_pair (drop l.k l.runs)) ≡ capped (treatment_count_in treats_pair l.runs))
