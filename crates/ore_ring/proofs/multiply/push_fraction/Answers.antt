use Rattle.std.proofs.Common.{sym, ap, ◌∙◌, subst}
use Rattle.std.specs.declared.result.Result.TheVariants.{Ok}
use Rattle.ore_rational.specs.Range.{InRange}
use Rattle.ore_ring.proofs.PlainNumbers.{fraction_push}
use Rattle.ore_ring.proofs.multiply.push_fraction.Goals as goal

pub returns : goal.returns
returns c =
    fraction_push c.args.uv c.args.out.now.items c.args.exps (subst InRange c.numerator.ensures.value c.numerator.ensures.range) (subst InRange c.denominator.ensures.value c.denominator.ensures.range)
    ∙ ap Ok (sym c.in_ok-push.ensures.items)
