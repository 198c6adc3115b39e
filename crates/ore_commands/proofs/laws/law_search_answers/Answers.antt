use Rattle.ore_commands.proofs.Searches.{answered}
use Rattle.ore_commands.proofs.laws.law_search_answers.Goals as goal

pub returns : goal.returns
returns c = answered
