use Rattle.std.proofs.Common.{sym, ◌∙◌}
use Rattle.ore_commands.proofs.KnownWords.{third_word}
use Rattle.ore_commands.proofs.command.third_behind.Goals as goal

pub returns : goal.returns
returns c = third_word c.args.words.now c.args.first.now c.args.second.now c.word.result.now c.word-2.result.now c.word-3.result.now (sym c.len.ensures ∙ c.if-len-ne3.false) c.word.ensures c.if-ne.ensures c.word-2.ensures c.if-ne-2.ensures c.word-3.ensures
