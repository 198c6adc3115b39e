-- A fraction as a `Rational` stores it.
--     IsStoredFraction  the two fields are in range, the denominator is above 0, and they are in lowest terms
--     stored_back    the fields are the parts of the fraction that they stand for
--     abs_pos, pos-abs  a whole number above 0 has an absolute value above 0, and is that value
use Rattle.std.specs.Prelude.{◌≡◌, ◌<◌, ℤ, pos, ◌<ℤ◌, nat_abs}
use Rattle.std.specs.Int.{IsGcd}
use Rattle.std.proofs.Common.{arith, ap, ◌∙◌}
use Rattle.std.proofs.lemmas.Int.{ints}
use Rattle.ore_rational.specs.Fraction.{reduce}
use Rattle.ore_rational.specs.Reduced.{num-reduce, den-reduce}
use Rattle.ore_rational.specs.declared.Rational.TheInside.{Inside}
use Rattle.ore_rational.specs.Range.{InRange}

pub record IsStoredFraction (a : Inside) : Type 0 where
  pub range : InRange a.numerator
  pub above : pos 0 <ℤ a.denominator
  pub lowest : IsGcd (nat_abs a.numerator) (nat_abs a.denominator) 1

pub abs_pos : (d : ℤ) → pos 0 <ℤ d → 0 < nat_abs d
abs_pos d h = omega (arith, ints)

pub pos-abs : (d : ℤ) → pos 0 <ℤ d → pos (nat_abs d) ≡ d
pos-abs d h = omega (arith, ints)

pub stored_back : (a : Inside) → IsStoredFraction a → (let b : Inside = record { numerator = (reduce a.numerator (nat_abs a.denominator)).num; denominator = pos (reduce a.numerator (nat_abs a.denominator)).den } in b ≡ a)
stored_back a h = λ i. record {
  numerator = num-reduce a.numerator (nat_abs a.denominator) (abs_pos a.denominator h.above) h.lowest i;
  denominator = (ap pos (den-reduce a.numerator (nat_abs a.denominator) (abs_pos a.denominator h.above) h.lowest) ∙ pos-abs a.denominator h.above) i;
}
