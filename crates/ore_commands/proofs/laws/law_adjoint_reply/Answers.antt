use Rattle.ore_commands.proofs.AdjointReplies.{one_adjoint_reply}
use Rattle.ore_commands.proofs.laws.law_adjoint_reply.Goals as goal

pub returns : goal.returns
returns c = one_adjoint_reply
