use Rattle.std.proofs.Common.{T, eqb→eq, subst, sym, ◌∙◌}
use Rattle.ore_commands.proofs.KnownWords.{two_words_tell}
use Rattle.ore_commands.proofs.command.are_two.Goals.{then-len-eq2, else-len-eq2}
use Rattle.ore_commands.proofs.command.are_two.Goals as goal

pub returns-then-eq : goal.returns-then-eq
returns-then-eq c = elim c.if-len-eq2.branch [
  | then-len-eq2 w ↦ two_words_tell c.args.words.now c.args.first.now c.args.second.now w.word.result.now c.word-then-eq.result.now c.eq-then-eq.result (sym c.len.ensures ∙ w.if-len-eq2.true)
      w.word.ensures (sym w.eq.ensures ∙ sym w.value-is ∙ c.if-eq.true) c.word-then-eq.ensures c.eq-then-eq.ensures
  | else-len-eq2 w ↦ absurd (w.if-len-eq2.false (eqb→eq c.len.result 2 (subst T (sym (sym w.value-is ∙ c.if-eq.true)) tt)))
]
