use Rattle.std.proofs.Common.{refl, sym, ap, ◌∙◌}
use Rattle.std.specs.declared.result.Result.TheVariants.{Ok}
use Rattle.ore_algebra.specs.Limits.{program}
use Rattle.ore_ring.specs.Within.{minus_within, opposite}
use Rattle.ore_ring.proofs.OpSums.{minus_belongs}
use Rattle.ore_ring.proofs.ZeroSums.{zero_plus}
use Rattle.ore_rows.proofs.ZeroOperands.{minus_zero}
use Rattle.ore_rows.proofs.entry_ops.remove.Goals as goal

pub returns-then-is_zero-clause-gives : goal.returns-then-is_zero-clause-gives
returns-then-is_zero-clause-gives g c = ap (minus_within program c.args.f.sum) (c.if-is_zero.ensures.0 refl) ∙ minus_zero program c.args.f.sum

pub returns-then-is_zero-2-clause-gives : goal.returns-then-is_zero-2-clause-gives
returns-then-is_zero-2-clause-gives g c = ap (λ v. minus_within program v c.args.g.sum) (c.if-is_zero-2.ensures.0 refl) ∙ zero_plus program (opposite c.args.g.sum) ∙ ap Ok (sym c.negated.ensures.sum)

pub returns-then-is_zero-2-clause-of : goal.returns-then-is_zero-2-clause-of
returns-then-is_zero-2-clause-of g c =
    minus_belongs (g.R.OreRing.sig c.args.ring.now) c.args.f c.args.g c.negated.result c.requires.f_of c.requires.g_of (c.negated.ensures.by ∙ c.requires.g_of.order ∙ sym c.requires.f_of.order) (returns-then-is_zero-2-clause-gives g c)
