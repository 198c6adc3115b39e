use Rattle.std.proofs.lemmas.Result.{err_from_is_err_and}
use Rattle.ore_monomial.proofs.Stops.{fails_like}
use Rattle.ore_ring.proofs.GatherSteps.{op_add_ok, op_add_stops}
use Rattle.ore_ring.proofs.gather.Gather.add.Goals as goal

pub returns-in_err-s-clause-turns : goal.returns-in_err-s-clause-turns
returns-in_err-s-clause-turns c =
    let p = err_from_is_err_and c.from_residual.result c.from_residual.ensures.1 in
    rw (p.1, p.2) (fails_like _ _ _ (λ e h. op_add_stops c.self.inside.order c.self.inside.map.entries c.args.exps c.args.coef c.number_at-old.result c.rank-key.result c.args.self.now c.self.view_is c.self.invariant c.rank-key.ensures c.number_at-old.ensures e h) c.in_err-s.ensures)

pub invariant_of-self-2 : goal.invariant_of-self-2
invariant_of-self-2 c =
    (op_add_ok c.self.inside.order c.self.inside.map.entries c.args.exps c.args.coef c.number_at-old.result c.rank-key.result c.args.self.now c.self.view_is c.self.invariant c.rank-key.ensures c.number_at-old.ensures c.in_ok-s.s c.insert.new.self.entries c.in_ok-s.ensures c.in_ok-insert.ensures.entries).0

pub returns-clause-turns : goal.returns-clause-turns
returns-clause-turns c =
    (op_add_ok c.self.inside.order c.self.inside.map.entries c.args.exps c.args.coef c.number_at-old.result c.rank-key.result c.args.self.now c.self.view_is c.self.invariant c.rank-key.ensures c.number_at-old.ensures c.in_ok-s.s c.insert.new.self.entries c.in_ok-s.ensures c.in_ok-insert.ensures.entries).1
