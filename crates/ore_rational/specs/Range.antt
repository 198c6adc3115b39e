-- What the code computes with.
--     InRange        a whole number's magnitude is at most 2^127 - 1
--     fraction_eq    the test that both parts of two fractions are equal
use Rattle.std.specs.Prelude.{Bool, ◌&&◌, ◌<◌, ◌^◌, ℤ, pos, nat_abs}
use Rattle.std.specs.Ordering.{int_eq}
use Rattle.ore_rational.specs.Fraction.{Fraction}

abbrev pub InRange : ℤ → Type 0
InRange z = nat_abs z < 2 ^ 127

abbrev pub fraction_eq : Fraction → Fraction → Bool
fraction_eq p q = int_eq p.num q.num && int_eq (pos p.den) (pos q.den)
