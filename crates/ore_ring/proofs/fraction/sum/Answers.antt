use Rattle.std.proofs.Common.{sym, ap, ◌∙◌}
use Rattle.std.specs.declared.result.Result.TheVariants.{Ok}
use Rattle.ore_ring.proofs.FractionSteps.{sum_ok, sum_stops}
use Rattle.ore_ring.proofs.fraction.sum.Goals as goal

pub returns-in-Ok : goal.returns-in-Ok
returns-in-Ok c = sum_ok c.args.a c.args.b c.in-Ok.ensures.0 ∙ ap Ok (sym c.in-Ok.ensures.1)

pub returns-in-Err : goal.returns-in-Err
returns-in-Err c = sum_stops c.args.a c.args.b c.in-Err.ensures
