use Rattle.std.proofs.Common.{◌≢◌, pos, arith}
use Rattle.std.proofs.lemmas.Int.{ints}
use Rattle.ore_rational.proofs.Stored.{back}
use Rattle.ore_expr.proofs.QuotientFits.{quotient-fits}
use Rattle.ore_expr.proofs.parser.takes.fraction.Goals as goal

pub unreachable-requires : goal.unreachable-requires
unreachable-requires c =
    let nonzero : c.args.denominator ≢ pos 0 = λ e. omega (arith, ints, e) in
    let is = quotient-fits c.args.numerator c.args.denominator c.requires.numerator c.requires.denominator nonzero in
    c.in-Err.ensures (rw (back c.args.numerator c.ranges.numerator, back c.args.denominator c.ranges.denominator) is)
