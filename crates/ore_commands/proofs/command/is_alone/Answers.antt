use Rattle.std.proofs.Common.{sym, ◌∙◌}
use Rattle.ore_commands.proofs.KnownWords.{word_tells}
use Rattle.ore_commands.proofs.command.is_alone.Goals as goal

pub returns-then-len-eq1 : goal.returns-then-len-eq1
returns-then-len-eq1 c = word_tells c.args.words.now c.word.result.now c.args.word.now c.eq.result (sym c.len.ensures ∙ c.if-len-eq1.true) c.word.ensures c.eq.ensures
