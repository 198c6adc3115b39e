use Rattle.std.proofs.Common.{rules}
use Rattle.std.proofs.lemmas.Cmp.{back_total}
use Rattle.std.proofs.lemmas.List.Sorted.{ranks_by}
use Rattle.std.proofs.lemmas.Fn.{always_returns_same}
use Rattle.ore_monomial.proofs.Monomials.{order_total}
use Rattle.ore_ring.specs.Contributions.{falls_before}
use Rattle.ore_ring.proofs.sort.sort.Goals as goal

pub returns : goal.returns
returns c =
    c.sort_by.ensures.stable (falls_before c.args.order) (ranks_by (back_total (order_total c.args.order)) (λ t. t.0)) (always_returns_same _ _ _ (λ a r f k. search rules))
