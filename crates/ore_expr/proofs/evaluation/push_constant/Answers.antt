use Rattle.std.proofs.Common.{sym, ap, ◌∙◌}
use Rattle.std.specs.declared.result.Result.TheVariants.{Ok}
use Rattle.ore_algebra.specs.Limits.{program}
use Rattle.ore_ring.specs.Ordered.{Ordered}
use Rattle.ore_expr.proofs.Stacks.{constant_pushed}
use Rattle.ore_expr.proofs.evaluation.push_constant.Goals as goal

pub returns-clause-turns : goal.returns-clause-turns
returns-clause-turns g c =
    constant_pushed program (g.R.OreRing.sig c.args.ring.now) c.args.stack.now.items c.push.new.self.items c.args.number c.finished.result (c.in_ok-constant.ensures.gives ∙ ap (λ (v : Ordered). Ok v.sum) (sym c.finished.ensures)) c.in_ok-push.ensures.items
