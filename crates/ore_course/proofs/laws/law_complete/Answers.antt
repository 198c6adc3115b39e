use Rattle.ore_course.proofs.Completeness.{always_answered}
use Rattle.ore_course.proofs.laws.law_complete.Goals as goal

pub returns : goal.returns
returns g c = λ R rule course given budget kept result. always_answered R rule course given budget kept result
