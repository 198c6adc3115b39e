-- Quotients of numbers in range.
--     quotient-fits      both numbers of the reduced quotient are in range
use Rattle.std.proofs.Common.{◌≢◌, ℕ, ◌<◌, ◌^◌, ◌/◌, ℤ, pos, nat_abs, sym, subst, arith}
use Rattle.std.proofs.Math.Nat.{div-le_self}
use Rattle.std.specs.Bool.{IsTrue}
use Rattle.ore_algebra.specs.Limits.{program}
use Rattle.ore_rational.specs.Fraction.{ratio}
use Rattle.ore_rational.specs.Gcd.{gcd}
use Rattle.ore_rational.specs.Range.{InRange}
use Rattle.ore_rational.specs.Within.{fits}
use Rattle.ore_rational.proofs.Bounds.{fits_from}
use Rattle.ore_rational.proofs.Quotients.{quotient_num, quotient_den, abs-with_sign, differ}

below : (n g : ℕ) → n < 2 ^ 127 → n / g < 2 ^ 127
below n g h = omega (arith, div-le_self n g)

pub quotient-fits : (n d : ℤ) → InRange n → InRange d → d ≢ pos 0 → IsTrue (fits program (ratio n d))
quotient-fits n d numerator denominator nonzero =
    let g = gcd (nat_abs n) (nat_abs d) in
    fits_from (ratio n d)
    (subst InRange (sym (quotient_num n d nonzero)) (subst (λ k. k < 2 ^ 127) (sym (abs-with_sign (differ n d) (nat_abs n / g))) (below (nat_abs n) g numerator)))
    (subst (λ k. k < 2 ^ 127) (sym (quotient_den n d nonzero)) (below (nat_abs d) g denominator))
