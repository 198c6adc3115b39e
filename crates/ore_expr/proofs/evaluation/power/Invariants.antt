use Rattle.std.proofs.Common.{◌≡◌}
use Rattle.std.specs.declared.result.Result.TheVariants.{Ok}
use Rattle.ore_algebra.specs.Limits.{program}
use Rattle.ore_ring.specs.Belongs.{Belongs}
use Rattle.ore_expr.specs.Values.{power_within}
use Rattle.ore_expr.proofs.evaluation.power.Given as goal

abbrev pub invariant-loop : goal.invariant-loop
invariant-loop g l = record {
  told : power_within program (g.R.OreRing.sig l.ring) l.counter l.f.sum ≡ Ok l.product.sum;
  belongs : Belongs (g.R.OreRing.sig l.ring) l.product;
}
