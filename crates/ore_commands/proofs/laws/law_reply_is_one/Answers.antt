use Rattle.ore_commands.proofs.OneReply.{one_verdict}
use Rattle.ore_commands.proofs.laws.law_reply_is_one.Goals as goal

pub returns : goal.returns
returns c = one_verdict c.law_text_is_of_one.ensures c.law_faulty_line_is_one.ensures
