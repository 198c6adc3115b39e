use Rattle.std.proofs.Common.{◌≡◌, ◌+◌, ◌-◌, sym, ap, ◌∙◌, arith}
use Rattle.ore_check.specs.InnerContracts.{matrix_before}
use Rattle.ore_check.proofs.LinkConditions.{before_next}
use Rattle.ore_check.proofs.links.matrix_before.Goals as goal

pub returns-then-k-eq0 : goal.returns-then-k-eq0
unfolding matrix_before
returns-then-k-eq0 c = ap (matrix_before c.args.r.now c.args.links.now) (sym c.if-k-eq0.true)

pub returns-else-k-eq0 : goal.returns-else-k-eq0
returns-else-k-eq0 c =
    let k = c.args.k in
    let back : k - 1 + 1 ≡ k = omega (arith, c.if-k-eq0.false) in
    sym (before_next c.args.r.now c.args.links.now (k - 1) c.get.result.now c.get.ensures) ∙ ap (matrix_before c.args.r.now c.args.links.now) back
