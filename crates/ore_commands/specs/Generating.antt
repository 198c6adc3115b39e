-- The reply of `generate`.
--     greatest_problem_number  the greatest number of a generated problem
--     generated_text      the text of a generated problem
--     generated_reply     the reply with this text
use Rattle.std.specs.Prelude.{ℕ, List}
use Rattle.ore_problem.specs.ProblemText.{problem_text}
use Rattle.ore_generate.specs.Chain.{generated}
use Rattle.ore_reply.specs.declared.status.Status.TheVariants.{Done}
use Rattle.ore_reply.specs.Replies.{Reply}

abbrev pub greatest_problem_number : ℕ
greatest_problem_number = 65535

-- in its one printed form
abbrev pub generated_text : ℕ → List ℕ
generated_text n = problem_text (generated n)

-- whatever the input is
abbrev pub generated_reply : ℕ → Reply
generated_reply n = record { status = Done; text = generated_text n }
