use Rattle.std.proofs.Common.{◌≡◌, false, refl, sym, subst}
use Rattle.ore_course.specs.Failing.{is_budget}
use Rattle.ore_cert.specs.CourseReport.{reported_as}
use Rattle.ore_commands.proofs.report_check.is_budget.Goals as goal

pub returns-in-Overflow : goal.returns-in-Overflow
unfolding is_budget
returns-in-Overflow c = λ n same. subst (λ why. false ≡ is_budget (reported_as why) n) (sym c.in-Overflow.is) refl

pub returns-in-Degree : goal.returns-in-Degree
unfolding is_budget
returns-in-Degree c = λ n same. subst (λ why. false ≡ is_budget (reported_as why) n) (sym c.in-Degree.is) refl

pub returns-in-Budget : goal.returns-in-Budget
unfolding is_budget
returns-in-Budget c = λ n same. subst (λ why. c.is_number.result ≡ is_budget (reported_as why) n) (sym c.in-Budget.is) (c.is_number.ensures n same)
