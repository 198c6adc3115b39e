use Rattle.std.proofs.Common.{◌+◌, sym, ap, ◌∙◌, subst, arith}
use Rattle.std.proofs.lemmas.Result.{err_from_is_err_and}
use Rattle.std.specs.declared.result.Result.TheVariants.{Ok}
use Rattle.ore_algebra.specs.Limits.{program}
use Rattle.ore_rational.specs.Field.{rationals}
use Rattle.ore_monomial.proofs.Stops.{fails_like}
use Rattle.ore_monomial.specs.Gives.{Gives}
use Rattle.ore_monomial.specs.LetterRule.{constant}
use Rattle.ore_ring.specs.Belongs.{Belongs}
use Rattle.ore_ring.specs.Ordered.{Ordered}
use Rattle.ore_expr.specs.Values.{power_within}
use Rattle.ore_expr.proofs.Stacks.{power_next, power_stops}
use Rattle.ore_expr.proofs.evaluation.power.Goals as goal

pub returns-then-count-eq0-clause-gives : goal.returns-then-count-eq0-clause-gives
unfolding power_within
returns-then-count-eq0-clause-gives g c =
    let s = g.R.OreRing.sig c.args.ring.now in
    subst (λ n. Gives (λ (w : Ordered). w.sum) c.constant.result (power_within program s n c.args.f.now.sum)) (sym c.if-count-eq0.true)
    (subst (λ q. Gives (λ (w : Ordered). w.sum) c.constant.result (Ok (constant rationals q))) c.one.ensures c.constant.ensures.gives)

pub loop-init : goal.loop-init
unfolding power_within
loop-init g c =
    let same = c.in_ok-product.ensures.same in
    record { told = ap (λ (w : Ordered). Ok w.sum) (sym same); belongs = subst (Belongs (g.R.OreRing.sig c.args.ring.now)) (sym same) c.requires }

pub returns-in_err-product-2-clause-gives : goal.returns-in_err-product-2-clause-gives
returns-in_err-product-2-clause-gives g c =
    let s = g.R.OreRing.sig c.args.ring.now in
    let p = err_from_is_err_and c.from_residual-in_err-product-2.result c.from_residual-in_err-product-2.ensures.1 in
    let from_one = c.loop.auto.counter in
    let more = c.loop-test.true in
    rw (p.1, p.2) (fails_like _ _ _
    (λ e h. power_stops program s c.args.count (c.loop.counter + 1) c.args.f.now.sum e (omega arith) (omega arith)
    (power_next program s c.loop.counter c.args.f.now.sum c.loop.product.sum from_one c.loop.invariant.told ∙ h))
    c.in_err-product-2.ensures.gives)

pub loop-preserved : goal.loop-preserved
loop-preserved g c =
    record {
      told = power_next program (g.R.OreRing.sig c.args.ring.now) c.loop.counter c.args.f.now.sum c.loop.product.sum c.loop.auto.counter c.loop.invariant.told ∙ c.in_ok-product-2.ensures.gives;
      belongs = c.in_ok-product-2.ensures.of;
    }
