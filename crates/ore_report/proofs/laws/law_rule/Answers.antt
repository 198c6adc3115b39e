use Rattle.ore_report.proofs.RuleLaws.{one_choice, some_choice, all_lawful, spent_where, by_pairs, strict}
use Rattle.ore_report.proofs.laws.law_rule.Goals as goal

pub returns : goal.returns
returns c = record { one = one_choice; some = some_choice; lawful = all_lawful; spent = spent_where; pairs = by_pairs; strict = strict }
