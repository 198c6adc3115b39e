use Rattle.std.proofs.Common.{sym, ◌∙◌}
use Rattle.ore_blocks.proofs.Below.{below_less, below_equal, below_greater}
use Rattle.ore_blocks.proofs.steps.is_below.Goals as goal

pub returns-in-Less : goal.returns-in-Less
returns-in-Less c = sym (below_less c.args.order c.args.term.now.1 c.args.exps.now c.args.term.now.0 c.args.column (sym c.compare.ensures ∙ c.in-Less.is))

pub returns-in-Equal : goal.returns-in-Equal
returns-in-Equal c = sym (below_equal c.args.order c.args.term.now.1 c.args.exps.now c.args.term.now.0 c.args.column (sym c.compare.ensures ∙ c.in-Equal.is))

pub returns-in-Greater : goal.returns-in-Greater
returns-in-Greater c = sym (below_greater c.args.order c.args.term.now.1 c.args.exps.now c.args.term.now.0 c.args.column (sym c.compare.ensures ∙ c.in-Greater.is))
