use Rattle.std.proofs.Common.{sym, ap, ◌∙◌, subst}
use Rattle.ore_ring.specs.Terms.{IsFalling}
use Rattle.ore_ring.specs.Within.{opposite}
use Rattle.ore_ring.proofs.TermLaws.{C}
use Rattle.ore_ring.proofs.OpSums.{opposite_value, opposite_falls}
use Rattle.ore_ring.proofs.op.Op.negated.Goals as goal

pub from_terms-requires : goal.from_terms-requires
from_terms-requires c = subst (IsFalling c.self.inside.order) (sym c.negate.ensures) (opposite_falls c.self.inside.order c.self.inside.terms.items c.self.invariant)

pub returns-clause-sum : goal.returns-clause-sum
returns-clause-sum c =
    ap (λ v. v.sum) c.from_terms.ensures
    ∙ ap C c.negate.ensures
    ∙ opposite_value c.self.inside.terms.items
    ∙ ap (λ v. opposite v.sum) c.self.view_is
