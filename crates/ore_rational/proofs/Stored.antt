-- What the fields of a stored fraction say of its value, and what a number in range is when it is read again.
--     stored_num, stored_den           the fields are the numerator and the denominator
--     read, read_range, read_same      a number of 128 bits in range is what was written
--     gcd-below                        a greatest common divisor is above 0, and no greater than its second number
--     Decides-fraction_eq              `fraction_eq` tests whether two fractions are equal
use Rattle.std.proofs.Common.{◌≡◌, ℕ, ◌<◌, ◌≤◌, ◌^◌, ℤ, pos, ◌<ℤ◌, nat_abs, arith, sym, ap, ◌∙◌, to_z, of_z, to_z-of_z, FitsSigned, subst}
use Rattle.std.proofs.lemmas.Int.{ints, fits_signed_from_abs}
use Rattle.std.specs.Int.{w128}
use lib.Signed.{mag}
use Rattle.std.proofs.lemmas.Nat.Gcd.{le_of_dvd}
use Rattle.ore_rational.specs.Gcd.{gcd, gcd_is}
use Rattle.ore_rational.specs.Fraction.{Fraction, reduce, gcd-pos}
use Rattle.ore_rational.proofs.FractionLaws.{same_parts}
use Rattle.ore_rational.specs.Reduced.{num-reduce, den-reduce}
use Rattle.ore_rational.specs.declared.Rational.TheInside.{Inside}
use Rattle.ore_rational.specs.Range.{InRange, fraction_eq}
use Rattle.std.specs.Bool.{Decides}
use Rattle.std.specs.Ordering.{int_eq}
use Rattle.std.proofs.lemmas.Bool.Decides.{Decides-like, Decides-and, Decides-int_eq}
use Rattle.ore_rational.specs.Stored.{IsStoredFraction, abs_pos, pos-abs}

pub stored_num : (a : Inside) (p : Fraction) → reduce a.numerator (nat_abs a.denominator) ≡ p → IsStoredFraction a → a.numerator ≡ p.num
stored_num a p e h = sym (num-reduce a.numerator (nat_abs a.denominator) (abs_pos a.denominator h.above) h.lowest) ∙ ap (λ r. r.num) e

pub stored_den : (a : Inside) (p : Fraction) → reduce a.numerator (nat_abs a.denominator) ≡ p → IsStoredFraction a → a.denominator ≡ pos p.den
stored_den a p e h = sym (pos-abs a.denominator h.above) ∙ ap pos (sym (den-reduce a.numerator (nat_abs a.denominator) (abs_pos a.denominator h.above) h.lowest)) ∙ ap (λ r. pos r.den) e

pub back : (z : ℤ) → FitsSigned w128 z → to_z w128 (of_z w128 z) ≡ z
back z f = to_z-of_z f

pub gcd-below : (a b : ℕ) → 0 < b → b < 2 ^ 127 → (0 < gcd a b) × (gcd a b < 2 ^ 127)
gcd-below a b p h = let le : gcd a b ≤ b = le_of_dvd p (gcd_is a b).1 in (gcd-pos a b p, omega arith)

-- a number that goes to bits and is read again
pub read : (z : ℤ) → mag z < 2 ^ 127 → to_z w128 (of_z w128 z) ≡ z
read z h = to_z-of_z {w = w128} {z = z} (record { sfits = h })

pub read_range : (z : ℤ) → InRange z → to_z w128 (of_z w128 z) ≡ z
read_range z h = to_z-of_z (fits_signed_from_abs w128 z h)

-- x ≡ y, and y is in the range
pub read_same : (x y : ℤ) → x ≡ y → InRange y → to_z w128 (of_z w128 x) ≡ y
read_same x y e h = read_range x (subst InRange (sym e) h) ∙ e

pub pos_above : (d : ℕ) → 0 < d → pos 0 <ℤ pos d
pos_above d h = omega (arith, ints)

pub Decides-fraction_eq : (p q : Fraction) → Decides (fraction_eq p q) (p ≡ q)
Decides-fraction_eq p q =
    Decides-like (fraction_eq p q) (λ t. same_parts p q t.0 t.1) (λ e. (ap (λ r. r.num) e, ap (λ r. pos r.den) e))
    (Decides-and (int_eq p.num q.num) (int_eq (pos p.den) (pos q.den)) (Decides-int_eq p.num q.num) (Decides-int_eq (pos p.den) (pos q.den)))
