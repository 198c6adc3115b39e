use Rattle.ore_syzygy.proofs.EventOrigins.{origins_treated, origins_skipped}
use Rattle.ore_syzygy.proofs.inside.with_origin.Goals as goal

pub returns-in_ok-push-in-Treated : goal.returns-in_ok-push-in-Treated
returns-in_ok-push-in-Treated c = λ n rest. origins_treated c.args.front.items _ c.args.k n c.args.event.now rest c.in-Treated.i c.in-Treated.j c.in-Treated.steps c.in-Treated.outcome c.in-Treated.is c.in_ok-push-in-Treated.ensures.items

pub returns-in-Skipped : goal.returns-in-Skipped
returns-in-Skipped c = λ n rest. origins_skipped c.args.front.items c.args.front.items c.args.k n c.args.event.now rest c.in-Skipped.i c.in-Skipped.j c.in-Skipped.via c.in-Skipped.is
