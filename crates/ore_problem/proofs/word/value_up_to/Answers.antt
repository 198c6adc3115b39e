use Rattle.ore_problem.proofs.WordLemmas.{value_next}
use Rattle.ore_problem.proofs.word.value_up_to.Goals as goal

pub loop-digit-preserved : goal.loop-digit-preserved
loop-digit-preserved c = let h = value_next c.args.digits.now c.loop-digit.digit-index c.args.most c.requires.digits c.loop-digit-test.true in cc
