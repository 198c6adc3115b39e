-- Each variable of the code is a number of the quotient: `g_is` says what `g` is, `num_fits` that the numerator is in range.
use Rattle.std.proofs.Common.{◌≡◌, ◌≢◌, ◌<◌, ◌^◌, ◌/◌, ℤ, pos, nat_abs, to_z, of_z, ap, ap₂, sym, ◌∙◌, subst, arith}
use Rattle.std.proofs.lemmas.Int.{ints, to_z_pos}
use Rattle.std.specs.Int.{w128}
use Rattle.ore_rational.specs.Gcd.{gcd}
use Rattle.ore_rational.specs.Fraction.{ratio, gcd-pos}
use Rattle.ore_rational.proofs.FractionLaws.{same_parts}
use Rattle.ore_rational.specs.Range.{InRange}
use Rattle.ore_rational.proofs.Bounds.{fits-num, fits-den, fits_from}
use Rattle.ore_rational.proofs.Stored.{back, read_same}
use Rattle.ore_rational.proofs.Quotients.{with_sign, differ, abs-with_sign, nonzero, quotient_den, quotient_num}
use Rattle.ore_rational.proofs.Rational.new.Goals as goal
use Rattle.ore_rational.proofs.Rational.new.Goals.{After-unsigned_abs-3, After-unsigned_abs-4, After-signed-numerator}

g_is : (c : After-unsigned_abs-3) → c.gcd-g.result ≡ gcd (nat_abs c.args.num) (nat_abs c.args.den)
g_is c =
    c.gcd-g.ensures ∙ ap₂ gcd (c.unsigned_abs.ensures.value ∙ ap nat_abs (back _ c.ranges.num)) (c.unsigned_abs-2.ensures.value ∙ ap nat_abs (back _ c.ranges.den))

g_above : (c : After-unsigned_abs-3) → 0 < c.gcd-g.result
g_above c = rw (g_is c) (gcd-pos (nat_abs c.args.num) (nat_abs c.args.den) (nonzero c.args.den c.requires))

n_is : (c : After-unsigned_abs-4) → c.unsigned_abs-3.result / c.gcd-g.result ≡ nat_abs c.args.num / gcd (nat_abs c.args.num) (nat_abs c.args.den)
n_is c = ap₂ ◌/◌ (c.unsigned_abs-3.ensures.value ∙ ap nat_abs (back _ c.ranges.num)) (g_is (goal.at.nonzero_div-d c).After-unsigned_abs-3)

d_is : (c : After-unsigned_abs-4) → c.unsigned_abs-4.result / c.gcd-g.result ≡ nat_abs c.args.den / gcd (nat_abs c.args.num) (nat_abs c.args.den)
d_is c = ap₂ ◌/◌ (c.unsigned_abs-4.ensures.value ∙ ap nat_abs (back _ c.ranges.den)) (g_is (goal.at.nonzero_div-d c).After-unsigned_abs-3)

pub nonzero_div-n : goal.nonzero_div-n
nonzero_div-n c = g_above c

pub nonzero_div-d : goal.nonzero_div-d
nonzero_div-d c = g_above (goal.at.nonzero_div-d c).After-unsigned_abs-3

-- the sizes of the parts
num_size : (n d : ℤ) → d ≢ pos 0 → nat_abs (ratio n d).num ≡ nat_abs n / gcd (nat_abs n) (nat_abs d)
num_size n d h = ap nat_abs (quotient_num n d h) ∙ abs-with_sign (differ n d) _

pub returns-then-n-gt-GREATEST : goal.returns-then-n-gt-GREATEST
returns-then-n-gt-GREATEST c s =
    let e = n_is (goal.at.returns-then-n-gt-GREATEST c).After-unsigned_abs-4 in
    let h : nat_abs c.args.num / gcd (nat_abs c.args.num) (nat_abs c.args.den) < 2 ^ 127 = subst (λ k. k < 2 ^ 127) (num_size c.args.num c.args.den c.requires) (fits-num _ s) in
    omega (arith, e, h, c.if-n-gt-GREATEST.true)

pub returns-then-d-gt-GREATEST : goal.returns-then-d-gt-GREATEST
returns-then-d-gt-GREATEST c s =
    let e = d_is (goal.at.returns-then-d-gt-GREATEST c).After-unsigned_abs-4 in
    let h : nat_abs c.args.den / gcd (nat_abs c.args.num) (nat_abs c.args.den) < 2 ^ 127 = subst (λ k. k < 2 ^ 127) (quotient_den c.args.num c.args.den c.requires) (fits-den _ s) in
    omega (arith, e, h, c.if-d-gt-GREATEST.true)

denominator_is : (c : After-signed-numerator) → to_z w128 (c.unsigned_abs-4.result / c.gcd-g.result) ≡ pos (ratio c.args.num c.args.den).den
denominator_is c =
    let e = d_is (goal.at.from_parts-requires-clause-above c).After-unsigned_abs-4 in
    to_z_pos w128 _ (omega (arith, c.if-d-gt-GREATEST.false)) ∙ ap pos (e ∙ sym (quotient_den c.args.num c.args.den c.requires))

num_fits : (c : After-signed-numerator) → InRange (ratio c.args.num c.args.den).num
num_fits c =
    let e = n_is (goal.at.from_parts-requires-clause-above c).After-unsigned_abs-4 in
    rw (num_size c.args.num c.args.den c.requires) (omega (arith, e, c.if-n-gt-GREATEST.false))

numerator_is : (c : After-signed-numerator) → to_z w128 (of_z w128 c.signed-numerator.result) ≡ (ratio c.args.num c.args.den).num
numerator_is c =
    let e = n_is (goal.at.from_parts-requires-clause-above c).After-unsigned_abs-4 in
    read_same _ _
    (c.signed-numerator.ensures
    ∙ ap₂ with_sign (ap₂ differ (back _ c.ranges.num) (back _ c.ranges.den)) e
    ∙ sym (quotient_num c.args.num c.args.den c.requires))
    (num_fits c)

pub from_parts-requires-clause-above : goal.from_parts-requires-clause-above
from_parts-requires-clause-above c = rw (denominator_is c) (let p = (ratio c.args.num c.args.den).positive in omega (arith, ints, p))

pub from_parts-requires-clause-lowest : goal.from_parts-requires-clause-lowest
from_parts-requires-clause-lowest c = rw (numerator_is c, denominator_is c) (ratio c.args.num c.args.den).reduced

pub returns : goal.returns
returns c =
    let d = (goal.at.returns c).After-signed-numerator in
    let q = ratio c.args.num c.args.den in
    let e = d_is (goal.at.from_parts-requires-clause-above d).After-unsigned_abs-4 in (
      fits_from _ (num_fits d) (rw (quotient_den c.args.num c.args.den c.requires) (omega (arith, e, c.if-d-gt-GREATEST.false))),
      same_parts c.from_parts.result q (c.from_parts.ensures.numerator_is ∙ numerator_is d) (c.from_parts.ensures.denominator_is ∙ denominator_is d),
    )
