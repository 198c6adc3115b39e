use Rattle.std.proofs.Common.{refl, sym, ap, ◌∙◌}
use Rattle.std.specs.declared.result.Result.TheVariants.{Ok}
use Rattle.ore_algebra.specs.Limits.{program}
use Rattle.ore_ring.specs.AdjointWithin.{adjoint_within}
use Rattle.ore_ring.specs.Ordered.{Ordered}
use Rattle.ore_rows.proofs.ZeroOperands.{adjoint_none}
use Rattle.ore_adjoint.proofs.matrix.adjoint.Goals as goal

pub returns-then-is_zero-clause-gives : goal.returns-then-is_zero-clause-gives
returns-then-is_zero-clause-gives g c =
    let s = g.R.OreRing.sig c.args.ring.now in
    ap (adjoint_within program s) (c.if-is_zero.ensures.0 refl) ∙ adjoint_none program s ∙ ap (λ (w : Ordered). Ok w.sum) (sym c.zero.ensures)
