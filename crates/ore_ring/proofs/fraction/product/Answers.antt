use Rattle.std.proofs.Common.{refl, sym, ap, ◌∙◌}
use Rattle.std.specs.declared.result.Result.TheVariants.{Ok}
use Rattle.ore_algebra.specs.Limits.{program}
use Rattle.ore_rational.specs.Within.{product_within}
use Rattle.ore_ring.proofs.FractionSteps.{product_ok, product_stops, one_product, product_one}
use Rattle.ore_ring.proofs.fraction.product.Goals as goal

pub returns-then-is_one : goal.returns-then-is_one
returns-then-is_one c = ap (λ x. product_within program x c.args.b) (c.if-is_one.ensures refl) ∙ one_product c.args.b c.fitting.ensures.fits ∙ ap Ok (sym c.fitting.ensures.value)

pub returns-then-is_one-2 : goal.returns-then-is_one-2
returns-then-is_one-2 c = ap (product_within program c.args.a) (c.if-is_one-2.ensures refl) ∙ product_one c.args.a c.fitting-then-is_one-2.ensures.fits ∙ ap Ok (sym c.fitting-then-is_one-2.ensures.value)

pub returns-in-Ok : goal.returns-in-Ok
returns-in-Ok c = product_ok c.args.a c.args.b c.in-Ok.ensures.0 ∙ ap Ok (sym c.in-Ok.ensures.1)

pub returns-in-Err : goal.returns-in-Err
returns-in-Err c = product_stops c.args.a c.args.b c.in-Err.ensures
