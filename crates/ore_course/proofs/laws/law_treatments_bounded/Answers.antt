use Rattle.ore_course.proofs.Budget.{budget_exists, fewer, no_budget}
use Rattle.ore_course.proofs.laws.law_treatments_bounded.Goals as goal

pub returns-clause-exists : goal.returns-clause-exists
returns-clause-exists g c = λ R few course. budget_exists R few course

pub returns-clause-fewer : goal.returns-clause-fewer
returns-clause-fewer g c = λ R E extends. fewer R E extends

pub returns-clause-spent : goal.returns-clause-spent
returns-clause-spent g c = λ R E extends. no_budget R E extends
