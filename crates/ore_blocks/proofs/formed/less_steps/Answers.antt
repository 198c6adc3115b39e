use Rattle.std.proofs.Common.{rules, sym, ◌∙◌, drop, ◌+◌}
use Rattle.std.proofs.lemmas.Result.{err_from_is_err_and}
use Rattle.ore_algebra.specs.Limits.{program}
use Rattle.ore_algebra.proofs.ListLaws.{drop_read}
use Rattle.ore_monomial.proofs.Stops.{fails_like}
use Rattle.ore_rows.specs.Stored.{rows_of, sums_of}
use Rattle.ore_blocks.specs.PlaceConditions.{less_step}
use Rattle.ore_blocks.proofs.Folds.{folded_on, folded_stops}
use Rattle.ore_blocks.proofs.formed.less_steps.Goals as goal

pub returns-in_err-left-clause-gives : goal.returns-in_err-left-clause-gives
returns-in_err-left-clause-gives g c =
    let s = g.R.OreRing.sig c.args.ring.now in
    let p = err_from_is_err_and c.from_residual.result c.from_residual.ensures.1 in
    rw (p.1, p.2) (fails_like _ _ _
    (λ e h. sym c.loop-k.invariant.told
    ∙ folded_stops (λ q t. less_step program s (rows_of c.args.m.now) t q) (sums_of c.loop-k.left) (drop c.loop-k.k c.args.steps.now) c.get.result.now (drop (c.loop-k.k + 1) c.args.steps.now) e
    (drop_read c.args.steps.now c.loop-k.k c.get.result.now c.get.ensures) h)
    c.in_err-left.ensures.gives)

pub loop-k-preserved : goal.loop-k-preserved
loop-k-preserved g c =
    let s = g.R.OreRing.sig c.args.ring.now in
    record {
      told =
          sym (folded_on (λ q t. less_step program s (rows_of c.args.m.now) t q) (sums_of c.loop-k.left) (sums_of c.in_ok-left.left) (drop c.loop-k.k c.args.steps.now) c.get.result.now (drop (c.loop-k.k + 1) c.args.steps.now)
          (drop_read c.args.steps.now c.loop-k.k c.get.result.now c.get.ensures) c.in_ok-left.ensures.gives)
          ∙ c.loop-k.invariant.told;
      width = search rules;
      belongs = search rules;
    }
