use Rattle.std.proofs.lemmas.Result.{err_from_is_err_and}
use Rattle.ore_monomial.proofs.Stops.{fails_like}
use Rattle.ore_expr.proofs.TermSums as Sums
use Rattle.ore_expr.proofs.operand.gathered.Goals as goal

pub returns-in_err-add_terms : goal.returns-in_err-add_terms
returns-in_err-add_terms c =
    let p = err_from_is_err_and c.from_residual.result c.from_residual.ensures.1 in
    record { gives = rw (p.1, p.2) (fails_like _ _ _ (λ e h. Sums.gathered_stops c.args.op.now c.new-sum.result c.order.result c.new-sum.ensures c.order.ensures e h) c.in_err-add_terms.ensures.turns) }

pub returns : goal.returns
returns c = record { gives = Sums.gathered_is c.args.op.now c.new-sum.result c.order.result c.new-sum.ensures c.order.ensures c.add_terms.new.sum c.add_terms.ensures.by c.in_ok-add_terms.ensures.turns }
