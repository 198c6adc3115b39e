use Rattle.std.proofs.Common.{sym, ap, ◌∙◌, slice_get, arith}
use Rattle.std.proofs.lemmas.Option.{slice_get_past, slice_get_read}
use Rattle.ore_ring.proofs.StoredOp.{stored_terms}
use Rattle.ore_ring.proofs.op.Op.get.Goals as goal

pub returns-then-k-len : goal.returns-then-k-len
returns-then-k-len c =
    let k = c.args.k in
    sym (ap (λ ts. slice_get ts k) (stored_terms c.self.inside.order c.self.inside.terms.items c.args.self.now c.self.view_is c.self.invariant)
    ∙ slice_get_read c.self.inside.terms.items c.len.result k c.index.result.now (c.len.ensures ∙ c.self.inside.terms.ok.0) c.if-k-len.true c.index.ensures)

pub returns-else-k-len : goal.returns-else-k-len
returns-else-k-len c =
    sym (ap (λ ts. slice_get ts c.args.k) (stored_terms c.self.inside.order c.self.inside.terms.items c.args.self.now c.self.view_is c.self.invariant)
    ∙ slice_get_past c.self.inside.terms.items c.args.k (omega (arith, c.len.ensures, c.self.inside.terms.ok.0)))
