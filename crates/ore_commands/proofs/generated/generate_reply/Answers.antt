use Rattle.std.proofs.Common.{ap, ◌∙◌}
use Rattle.ore_problem.specs.ProblemText.{problem_text}
use Rattle.ore_reply.specs.declared.status.Status.TheVariants.{Done}
use Rattle.ore_commands.proofs.generated.generate_reply.Goals as goal

pub returns-clause-reply : goal.returns-clause-reply
returns-clause-reply c = λ j. record { status = Done; text = (c.in_ok-text.ensures ∙ ap problem_text c.in_ok-problem.ensures.value) j }

pub returns-clause-truth : goal.returns-clause-truth
returns-clause-truth c = λ done. c.in_ok-text.ensures ∙ ap problem_text c.in_ok-problem.ensures.value
