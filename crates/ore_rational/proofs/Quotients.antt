-- The parts of a quotient of two whole numbers.
--     with_sign                        a magnitude with a sign
--     differ n d                       one of the two is below 0, and the other is not
--     quotient_num, quotient_den       both parts are magnitudes over their greatest common divisor, the numerator with a sign
use Rattle.std.proofs.Common.{◌≡◌, ◌≢◌, ℕ, zero, suc, ◌<◌, ◌/◌, ℤ, pos, negsuc, neg_ℤ, nat_abs, arith, refl, Bool, true, false, not, if◌then◌else◌, int_lt}
use Rattle.std.proofs.lemmas.Int.{ints}
use mathlib.Core.Bool.{beq}
use native.Mathlib.Nat.{zero-div}
use Rattle.ore_rational.specs.Gcd.{gcd}
use Rattle.ore_rational.specs.Fraction.{reduce, ratio, abs-neg}

-- a size with a sign
abbrev pub with_sign : Bool → ℕ → ℤ
with_sign b n = if b then neg_ℤ (pos n) else pos n

pub abs-with_sign : (b : Bool) (n : ℕ) → nat_abs (with_sign b n) ≡ n
abs-with_sign true n = abs-neg (pos n)
abs-with_sign false n = refl

-- one of the two is below 0
abbrev pub differ : ℤ → ℤ → Bool
differ n d = not (beq (int_lt n (pos 0)) (int_lt d (pos 0)))

above : (a : ℕ) → int_lt (pos a) (pos 0) ≡ false
above a = grind (arith, ints)

pub nonzero : (d : ℤ) → d ≢ pos 0 → 0 < nat_abs d
nonzero (pos zero) h = absurd (h refl)
nonzero (pos (suc d)) h = omega arith
nonzero (negsuc d) h = omega arith

pub quotient_den : (n d : ℤ) → d ≢ pos 0 → (ratio n d).den ≡ nat_abs d / gcd (nat_abs n) (nat_abs d)
unfolding reduce
quotient_den n (pos zero) h = absurd (h refl)
quotient_den n (pos (suc d)) h = refl
quotient_den n (negsuc d) h = rw (abs-neg n) refl

pub quotient_num : (n d : ℤ) → d ≢ pos 0 → (ratio n d).num ≡ with_sign (differ n d) (nat_abs n / gcd (nat_abs n) (nat_abs d))
unfolding reduce
quotient_num n (pos zero) h = absurd (h refl)
quotient_num (pos a) (pos (suc d)) h = rw (above a, above (suc d)) refl
quotient_num (negsuc a) (pos (suc d)) h = rw (above (suc d)) refl
quotient_num (pos zero) (negsuc d) h = rw (zero-div (gcd 0 (suc d))) refl
quotient_num (pos (suc a)) (negsuc d) h = rw (above (suc a)) refl
quotient_num (negsuc a) (negsuc d) h = refl
