use Rattle.ore_commands.proofs.AcceptedAnswers.{right_is_valid}
use Rattle.ore_commands.proofs.laws.law_right_certificate_is_valid.Goals as goal

pub returns : goal.returns
returns c = right_is_valid
