use Rattle.std.proofs.Common.{refl, sym, ap, ◌∙◌}
use Rattle.std.specs.declared.result.Result.TheVariants.{Ok}
use Rattle.ore_algebra.specs.Limits.{program}
use Rattle.ore_ring.specs.Ordered.{Ordered}
use Rattle.ore_ring.specs.Within.{times_within}
use Rattle.ore_rows.proofs.ZeroOperands.{times_zero, zero_times}
use Rattle.ore_rows.proofs.entry_ops.mul.Goals as goal

pub returns-then-is_zero-clause-gives : goal.returns-then-is_zero-clause-gives
returns-then-is_zero-clause-gives g c =
    let s = g.R.OreRing.sig c.args.ring.now in
    ap (λ v. times_within program s v c.args.g.now.sum) (c.if-is_zero.ensures.0 refl) ∙ zero_times program s c.args.g.now.sum ∙ ap (λ (w : Ordered). Ok w.sum) (sym c.zero.ensures)

pub returns-then-is_zero-2-clause-gives : goal.returns-then-is_zero-2-clause-gives
returns-then-is_zero-2-clause-gives g c =
    let s = g.R.OreRing.sig c.args.ring.now in
    ap (times_within program s c.args.f.now.sum) (c.if-is_zero-2.ensures.0 refl) ∙ times_zero program s c.args.f.now.sum ∙ ap (λ (w : Ordered). Ok w.sum) (sym c.zero-then-is_zero-2.ensures)
