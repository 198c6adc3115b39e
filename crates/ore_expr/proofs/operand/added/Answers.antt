use Rattle.ore_expr.proofs.TermSums as Sums
use Rattle.ore_expr.proofs.operand.added.Goals as goal

pub returns-clause-of : goal.returns-clause-of
returns-clause-of c = Sums.added_belongs c.args.f c.in_ok-sum.sum c.args.g.now c.add_terms.new.sum c.sum-2.result c.in_ok-sum.ensures.gives c.in_ok-add_terms.ensures.by c.in_ok-add_terms.ensures.turns c.sum-2.ensures
