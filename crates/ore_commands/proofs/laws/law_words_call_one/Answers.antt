use Rattle.ore_commands.proofs.Completeness.{one_command}
use Rattle.ore_commands.proofs.laws.law_words_call_one.Goals as goal

pub returns : goal.returns
returns c = one_command
