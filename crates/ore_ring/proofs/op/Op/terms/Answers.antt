use Rattle.std.proofs.Common.{sym, ◌∙◌}
use Rattle.ore_ring.proofs.StoredOp.{stored_terms}
use Rattle.ore_ring.proofs.op.Op.terms.Goals as goal

pub returns-clause-value : goal.returns-clause-value
returns-clause-value c = c.as_slice.ensures.value ∙ sym (stored_terms c.self.inside.order c.self.inside.terms.items c.args.self.now c.self.view_is c.self.invariant)
