use Rattle.std.proofs.Common.{subst, ◌<◌, ◌^◌}
use Rattle.std.specs.Prelude.{nat_abs}
use Rattle.ore_expr.proofs.TermSums as Sums
use Rattle.ore_expr.proofs.operand.fits_alone.Goals as goal

pub returns : goal.returns
returns c =
    let n = c.numerator.ensures in
    let d = c.denominator.ensures in
    Sums.fits_alone c.args.number.now (subst (λ z. nat_abs z < 2 ^ 127) n.value n.range) (subst (λ z. nat_abs z < 2 ^ 127) d.value d.range)
