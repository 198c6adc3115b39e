-- `is` and `below`: the number that the loop gives is the greatest common divisor, and fits 128 bits with a sign.
use Rattle.std.proofs.Common.{sym, ◌<◌, ◌^◌, nat_abs, arith, ◌≡◌, ap, ap₂, pos, ◌∙◌}
use Rattle.std.proofs.lemmas.Int.{ints, to_z_pos}
use Rattle.std.specs.Int.{w128}
use Rattle.ore_rational.specs.Gcd.{gcd}
use Rattle.ore_rational.proofs.Whole.{one-gcd, gcd-one}
use Rattle.ore_rational.specs.Stored.{abs_pos}
use Rattle.ore_rational.proofs.Stored.{gcd-below, back}
use Rattle.ore_rational.proofs.common_divisor.Goals as goal
use Rattle.ore_rational.proofs.common_divisor.Goals.{After-gcd}

is : (c : After-gcd) → c.gcd.result ≡ gcd (nat_abs c.args.a) (nat_abs c.args.b)
is c =
    c.gcd.ensures ∙ ap₂ gcd (c.unsigned_abs.ensures.value ∙ ap nat_abs (back _ c.ranges.a)) (c.unsigned_abs-2.ensures.value ∙ ap nat_abs (back _ c.ranges.b))

below : (c : After-gcd) → (0 < c.gcd.result) × (c.gcd.result < 2 ^ 127)
below c = rw (is c) (gcd-below (nat_abs c.args.a) (nat_abs c.args.b) (abs_pos _ c.requires.low) (omega (arith, ints)))

pub overflow_cast-result : goal.overflow_cast-result
overflow_cast-result c = let h = below c in omega (arith, ints)

pub returns-clause-value : goal.returns-clause-value
returns-clause-value c = to_z_pos w128 _ (below c).1 ∙ ap pos (is c)

pub returns-clause-positive : goal.returns-clause-positive
returns-clause-positive c = let h = below c in omega (arith, ints)

pub returns-then-a-eq1-clause-value : goal.returns-then-a-eq1-clause-value
returns-then-a-eq1-clause-value c = let e : c.args.a ≡ pos 1 = omega (arith, ints) in rw e (ap pos (sym (one-gcd (nat_abs c.args.b))))

pub returns-then-b-eq1-clause-value : goal.returns-then-b-eq1-clause-value
returns-then-b-eq1-clause-value c = let e : c.args.b ≡ pos 1 = omega (arith, ints) in rw e (ap pos (sym (gcd-one (nat_abs c.args.a))))
