use Rattle.ore_check.proofs.PlanBudgets.{budget_exists}
use Rattle.ore_check.proofs.laws.law_budget_exists.Goals as goal

pub returns : goal.returns
returns c = budget_exists c.args.sig.now c.law_run_ends.ensures.extends c.law_run_ends.ensures.ends c.law_few_choices.ensures
