use Rattle.ore_expr.proofs.GrammarLaws.{reads_expressions}
use Rattle.ore_expr.proofs.Machine.{value_of-expression_code}
use Rattle.ore_expr.proofs.laws.law_reads_expressions.Goals as goal

pub returns : goal.returns
returns c = reads_expressions value_of-expression_code
