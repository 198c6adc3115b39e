use Rattle.std.proofs.Common.{refl, ap, ◌∙◌}
use Rattle.ore_algebra.specs.Limits.{program}
use Rattle.ore_ring.specs.Within.{minus_within}
use Rattle.ore_rows.proofs.ZeroOperands.{minus_zero, copied}
use Rattle.ore_rows.proofs.entry_ops.sub.Goals as goal

pub returns-then-is_zero-clause-gives : goal.returns-then-is_zero-clause-gives
returns-then-is_zero-clause-gives g c = copied _ c.args.f.now _ c.copy.ensures.same c.copy.ensures.memory (ap (minus_within program c.args.f.now.sum) (c.if-is_zero.ensures.0 refl) ∙ minus_zero program c.args.f.now.sum)
