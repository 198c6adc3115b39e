use Rattle.ore_expr.proofs.GrammarLaws.{finds_faults}
use Rattle.ore_expr.proofs.laws.law_finds_faults.Goals as goal

pub returns : goal.returns
returns c = finds_faults
