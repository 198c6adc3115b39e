use Rattle.ore_generate.specs.Chain.{generated}
use Rattle.ore_generate.proofs.Chains.{generated_printable}
use Rattle.ore_generate.proofs.laws.law_generated_is_read.Goals as goal

pub returns : goal.returns
returns c = λ n. c.law_printed_is_read.ensures.alone (generated n) (generated_printable n)
