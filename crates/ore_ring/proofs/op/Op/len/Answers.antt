use Rattle.std.proofs.Common.{sym, ap, ◌∙◌, length}
use Rattle.ore_ring.proofs.StoredOp.{stored_terms}
use Rattle.ore_ring.proofs.op.Op.len.Goals as goal

pub returns : goal.returns
returns c = c.len.ensures ∙ c.self.inside.terms.ok.0 ∙ ap length (sym (stored_terms c.self.inside.order c.self.inside.terms.items c.args.self.now c.self.view_is c.self.invariant))
