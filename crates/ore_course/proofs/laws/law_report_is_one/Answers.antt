use Rattle.ore_course.proofs.Uniqueness.{one_report, one_answer, not_both}
use Rattle.ore_course.proofs.laws.law_report_is_one.Goals as goal

pub returns-clause-report : goal.returns-clause-report
returns-clause-report g c = λ R closed rule strict budget. one_report R rule closed strict budget

pub returns-clause-answer : goal.returns-clause-answer
returns-clause-answer g c = λ R closed rule strict budget course runs others x y h k. one_answer R rule closed strict budget course runs others x y h.formed h.allowed h.within_budget k.formed k.allowed k.within_budget

pub returns-clause-end : goal.returns-clause-end
returns-clause-end g c = λ R closed rule strict budget course runs x h report honest within. not_both R rule closed strict budget course runs x report h.formed h.allowed h.within_budget honest within
