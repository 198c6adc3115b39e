use Rattle.std.proofs.Common.{sym}
use Rattle.ore_problem.proofs.print.print_problem.Goals as goal

pub whole_text-requires : goal.whole_text-requires
whole_text-requires c = rw c.new-algebra.ensures.signature c.requires.matrix

pub returns : goal.returns
returns c = rw (sym c.new-algebra.ensures.signature, sym c.new-algebra.ensures.names) c.whole_text.ensures
