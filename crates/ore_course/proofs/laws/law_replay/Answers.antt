use Rattle.ore_course.proofs.Replay.{replay_answered, replay_halted}
use Rattle.ore_course.proofs.laws.law_replay.Goals as goal

pub returns-clause-answered : goal.returns-clause-answered
returns-clause-answered g c = λ R closed rule course report given. replay_answered R closed rule course report given

pub returns-clause-halted : goal.returns-clause-halted
returns-clause-halted g c = λ R closed rule course report given. replay_halted R closed rule course report given
