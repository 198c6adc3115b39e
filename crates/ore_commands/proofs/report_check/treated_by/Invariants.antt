use Rattle.std.proofs.Common.{◌≡◌, ◌+◌, ◌≤◌, drop}
use Rattle.ore_course.specs.Choices.{treatment_count}
use Rattle.ore_pairs.specs.Runner.{treats_pair}
use Rattle.ore_check.specs.Check.{capped}
use Rattle.ore_commands.proofs.report_check.treated_by.Given as goal

abbrev pub invariant-loop-k : goal.invariant-loop-k
invariant-loop-k l = (l.treated ≤ 18446744073709551615) × (capped (l.treated + treatment_count treats_pair (drop l.k l.run)) ≡ capped (treatment_count treats_pair l.run))
