use Rattle.ore_course.proofs.Calls.{formed_within, reported}
use Rattle.ore_course.proofs.laws.law_followed.Goals as goal

pub returns-clause-formed : goal.returns-clause-formed
returns-clause-formed g c = λ R rule course given x budget follows within_budget. formed_within R rule budget follows within_budget

pub returns-clause-reported : goal.returns-clause-reported
returns-clause-reported g c = λ R rule course given budget replays kept halt halted within_budget reportable. reported R rule course given budget replays kept halt halted reportable within_budget
