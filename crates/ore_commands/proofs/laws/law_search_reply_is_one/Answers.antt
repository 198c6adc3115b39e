use Rattle.ore_commands.proofs.OneSearchReply.{one_search_reply}
use Rattle.ore_commands.proofs.laws.law_search_reply_is_one.Goals as goal

pub returns : goal.returns
returns c = one_search_reply
