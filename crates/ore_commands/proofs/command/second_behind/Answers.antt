use Rattle.std.proofs.Common.{sym, ◌∙◌}
use Rattle.ore_commands.proofs.KnownWords.{second_word}
use Rattle.ore_commands.proofs.command.second_behind.Goals as goal

pub returns : goal.returns
returns c = second_word c.args.words.now c.args.first.now c.word.result.now c.word-2.result.now (sym c.len.ensures ∙ c.if-len-ne2.false) c.word.ensures c.if-ne.ensures c.word-2.ensures
