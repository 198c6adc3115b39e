use Rattle.std.proofs.Common.{refl, ap, ◌∙◌}
use Rattle.ore_algebra.specs.Limits.{program}
use Rattle.ore_ring.specs.Within.{plus_within}
use Rattle.ore_ring.proofs.ZeroSums.{plus_zero, zero_plus}
use Rattle.ore_rows.proofs.entry_ops.join.Goals as goal

pub returns-then-is_zero-clause-gives : goal.returns-then-is_zero-clause-gives
returns-then-is_zero-clause-gives g c = ap (λ v. plus_within program v c.args.g.sum) (c.if-is_zero.ensures.0 refl) ∙ zero_plus program c.args.g.sum

pub returns-then-is_zero-2-clause-gives : goal.returns-then-is_zero-2-clause-gives
returns-then-is_zero-2-clause-gives g c = ap (plus_within program c.args.f.sum) (c.if-is_zero-2.ensures.0 refl) ∙ plus_zero program c.args.f.sum
