use Rattle.std.proofs.Common.{subst, ap, ◌∙◌}
use Rattle.ore_algebra.specs.Limits.{program}
use Rattle.ore_monomial.specs.Gives.{Gives}
use Rattle.ore_monomial.specs.Signature.{Signature}
use Rattle.ore_ring.specs.Ordered.{Ordered}
use Rattle.ore_ring.specs.Within.{plus_within, opposite}
use Rattle.ore_ring.proofs.ZeroSums.{zero_plus}
use Rattle.ore_expr.proofs.Stacks.{zero_belongs}
use Rattle.ore_expr.proofs.evaluation.opposite.Goals as goal

pub sub-requires-clause-a_of : goal.sub-requires-clause-a_of
sub-requires-clause-a_of g c =
    zero_belongs (g.R.OreRing.sig c.args.ring.now) c.order.result c.zero-nothing.result c.zero-nothing.ensures (c.order.ensures ∙ ap (λ (v : Signature). v.order) c.signature.ensures)

pub returns-clause-gives : goal.returns-clause-gives
returns-clause-gives g c =
    subst (Gives (λ (f : Ordered). f.sum) c.sub.result)
    (ap (λ (v : Ordered). plus_within program v.sum (opposite c.args.g.now.sum)) c.zero-nothing.ensures ∙ zero_plus program (opposite c.args.g.now.sum))
    c.sub.ensures.gives
