use Rattle.ore_course.proofs.OnlyForced.{only_report, its_report}
use Rattle.ore_course.proofs.laws.law_forced_report.Goals as goal

pub returns-clause-only : goal.returns-clause-only
returns-clause-only g c = λ R. only_report R

pub returns-clause-own : goal.returns-clause-own
returns-clause-own g c = λ R. its_report R
