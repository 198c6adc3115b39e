use Rattle.ore_course.proofs.FirstFailing.{first_exactly}
use Rattle.ore_course.proofs.Honesty.{honest_exactly}
use Rattle.ore_course.proofs.laws.law_first_failing_line.Goals as goal

pub returns-clause-none : goal.returns-clause-none
returns-clause-none g c = λ R. honest_exactly R

pub returns-clause-first : goal.returns-clause-first
returns-clause-first g c = λ R course report. first_exactly R report course
