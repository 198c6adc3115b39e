use Rattle.ore_commands.proofs.SomeReply.{lacks_no_reply}
use Rattle.ore_commands.proofs.laws.law_no_bytes_lack_a_reply.Goals as goal

pub returns : goal.returns
returns c = lacks_no_reply
