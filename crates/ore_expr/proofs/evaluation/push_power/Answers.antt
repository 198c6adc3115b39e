use Rattle.std.proofs.Common.{sym, ap, ◌∙◌}
use Rattle.std.specs.declared.result.Result.TheVariants.{Ok}
use Rattle.ore_algebra.specs.Limits.{program}
use Rattle.ore_ring.specs.Ordered.{Ordered}
use Rattle.ore_expr.proofs.Stacks.{power_pushed}
use Rattle.ore_expr.proofs.evaluation.push_power.Goals as goal

pub returns-clause-turns : goal.returns-clause-turns
returns-clause-turns g c =
    power_pushed program (g.R.OreRing.sig c.args.ring.now) c.args.stack.now.items c.push.new.self.items c.args.variable c.args.exponent c.finished.result (c.in_ok-power_of_variable.ensures.gives ∙ ap (λ (v : Ordered). Ok v.sum) (sym c.finished.ensures)) c.in_ok-push.ensures.items
