-- Fractions are told apart by their two parts, and reducing a reduced pair changes nothing.
--     same_fraction            equal parts make equal fractions
--     num-reduce, den-reduce   the parts of what `reduce` makes of a reduced pair
--     fraction_code            a fraction is stored as its two parts
--     reduce-self              the parts of a fraction, reduced, are that fraction
use Rattle.std.specs.Prelude.{◌≡◌, ℕ, zero, suc, ◌/◌, ◌<◌, ℤ, pos, negsuc, nat_abs}
use Rattle.std.proofs.Common.{arith, ap, refl, ◌∙◌}
use Rattle.std.proofs.lemmas.Nat.Gcd.{same_from_IsGcd}
use native.Mathlib.Nat.{div-one, ∣_prop}
use native.Mathlib.Bridge.{le_prop}
use mathlib.Core.HLevel.{is_prop→PathP}
use Rattle.std.specs.Int.{IsGcd}
use Rattle.std.specs.Coded.{Coded, code_by, coded×, coded_ℕ, coded_ℤ}
use Rattle.ore_rational.specs.Gcd.{gcd, gcd_is}
use Rattle.ore_rational.specs.Fraction.{Fraction, over, reduce}

IsGcd_prop : (a b g : ℕ) → IsProp (IsGcd a b g)
IsGcd_prop a b g = hlevel (∣_prop)

pub same_fraction : (p q : Fraction) → p.num ≡ q.num → p.den ≡ q.den → p ≡ q
same_fraction p q e f = λ i. record {
  num = e i;
  den = f i;
  positive = is_prop→PathP (λ j. 0 < f j) (λ j. le_prop) p.positive q.positive i;
  reduced = is_prop→PathP (λ j. IsGcd (nat_abs (e j)) (f j) 1) (λ j. IsGcd_prop (nat_abs (e j)) (f j) 1) p.reduced q.reduced i;
}

over-one : (z : ℤ) → over z 1 ≡ z
over-one (pos n) = ap pos (div-one n)
over-one (negsuc n) = rw (div-one (suc n)) refl

gcd-reduced : (n : ℤ) (d : ℕ) → IsGcd (nat_abs n) d 1 → gcd (nat_abs n) d ≡ 1
gcd-reduced n d c = same_from_IsGcd (nat_abs n) d (gcd (nat_abs n) d) 1 (gcd_is (nat_abs n) d) c

pub num-reduce : (n : ℤ) (d : ℕ) → 0 < d → IsGcd (nat_abs n) d 1 → (reduce n d).num ≡ n
unfolding reduce
num-reduce n zero p c = absurd (omega arith)
num-reduce n (suc d) p c = ap (λ g. over n g) (gcd-reduced n (suc d) c) ∙ over-one n

pub den-reduce : (n : ℤ) (d : ℕ) → 0 < d → IsGcd (nat_abs n) d 1 → (reduce n d).den ≡ d
unfolding reduce
den-reduce n zero p c = absurd (omega arith)
den-reduce n (suc d) p c = ap (λ g. suc d / g) (gcd-reduced n (suc d) c) ∙ div-one (suc d)

pub reduce-self : (p : Fraction) → reduce p.num p.den ≡ p
reduce-self p = same_fraction _ p (num-reduce p.num p.den p.positive p.reduced) (den-reduce p.num p.den p.positive p.reduced)

abbrev pub fraction_code : Coded Fraction
fraction_code = code_by (ℤ × ℕ) (coded× coded_ℤ coded_ℕ) (λ p. (p.num, p.den)) (λ t. reduce t.0 t.1) reduce-self
