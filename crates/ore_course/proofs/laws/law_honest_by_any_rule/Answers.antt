use Rattle.ore_course.proofs.AnyRuleLaws.{any_honest}
use Rattle.ore_course.proofs.laws.law_honest_by_any_rule.Goals as goal

pub returns : goal.returns
returns g c = λ R. any_honest R
