use Rattle.ore_problem.proofs.FaultyTexts.{finds_first_faulty_line}
use Rattle.ore_problem.proofs.laws.law_finds_first_faulty_line.Goals as goal

pub returns : goal.returns
returns c = finds_first_faulty_line
