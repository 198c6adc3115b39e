-- The greatest common divisor of two numbers, by Euclid's steps, and what coprime numbers divide.
--     gcd                     the greatest common divisor, where gcd a 0 = a; gcd_within has a bound on the number of steps
--     gcd_is                  it divides both, and every number that divides both divides it
--     gauss                   a divisor of a c that shares nothing with a divides c
--     coprime_over, ..        numbers that share no divisor but 1, and how such numbers arise
--     gcd-scaled              the greatest common divisor of multiples
--     coprime-mul, coprime_parts  coprime to a product; divisors of coprime numbers
--     dvd-over                a quotient divides what was divided
use Rattle.std.specs.Prelude.{◌≡◌, ℕ, zero, suc, ◌+◌, ◌*◌, ◌/◌, ◌%◌, ◌<◌, ◌≤◌}
use Rattle.std.proofs.Common.{arith, sym, ap, subst, mul-one, one-mul, zero-mul, mul-zero, mod-lt, div-add-mod', mul-lt-mul_of_pos_right, zero-lt-suc}
use Rattle.std.proofs.lemmas.Nat.{mod-mul-add}
use Rattle.std.proofs.lemmas.Nat.Gcd.{IsGcd-from_zero, IsGcd-from_mod, same_from_IsGcd, dvd_trans}
use native.Mathlib.Nat.{dvd-mul_right, dvd_of_mul-dvd-mul_right, mul-dvd-mul_right, one-dvd, div-mul_cancel}
use Prim.Native.Nat.{◌∣◌}
use Rattle.std.specs.Int.{IsGcd}

abbrev pub gcd_within : ℕ → ℕ → ℕ → ℕ
gcd_within zero a b = a
gcd_within (suc f) a zero = a
gcd_within (suc f) a (suc b) = gcd_within f (suc b) (a % suc b)

unfoldable pub gcd : ℕ → ℕ → ℕ
gcd a b = gcd_within b a b

mod-scaled : (a b c : ℕ) → 0 < b → (a * c) % (b * c) ≡ (a % b) * c
mod-scaled a b zero p = simp mul-zero
mod-scaled a b (suc c) p =
    let lt : (a % b) * suc c < b * suc c = mul-lt-mul_of_pos_right (mod-lt a p) (zero-lt-suc c) in
    let e : a * suc c ≡ (a / b) * (b * suc c) + (a % b) * suc c = omega (arith, ap (λ n. n * suc c) (div-add-mod' a b)) in
    rw e (mod-mul-add (a / b) (b * suc c) ((a % b) * suc c) lt)

gcd_within-scaled : (f a b c : ℕ) → b ≤ f → IsGcd (a * c) (b * c) (gcd_within f a b * c)
gcd_within-scaled zero a b c h = IsGcd-from_zero (a * c) (b * c) (let e : b ≡ 0 = omega arith in rw e (zero-mul c))
gcd_within-scaled (suc f) a zero c h = IsGcd-from_zero (a * c) (0 * c) (zero-mul c)
gcd_within-scaled (suc f) a (suc b) c h =
    IsGcd-from_mod (a * c) (suc b * c) (gcd_within f (suc b) (a % suc b) * c)
    (rw (mod-scaled a (suc b) c (zero-lt-suc b)) (gcd_within-scaled f (suc b) (a % suc b) c (let l : a % suc b < suc b = mod-lt a (zero-lt-suc b) in omega arith)))

pub gcd-scaled : (a b c : ℕ) → IsGcd (a * c) (b * c) (gcd a b * c)
unfolding gcd
gcd-scaled a b c = gcd_within-scaled b a b c (omega arith)

pub gcd_is : (a b : ℕ) → IsGcd a b (gcd a b)
gcd_is a b = simp mul-one at (gcd-scaled a b 1)

-- a divisor of a * c that shares nothing with a divides c
pub gauss : (a b c : ℕ) → IsGcd a b 1 → b ∣ a * c → b ∣ c
gauss a b c r d =
    let e : gcd a b ≡ 1 = same_from_IsGcd a b (gcd a b) 1 (gcd_is a b) r in
    let g : IsGcd (a * c) (b * c) (1 * c) = subst (λ n. IsGcd (a * c) (b * c) (n * c)) e (gcd-scaled a b c) in
    subst (λ n. b ∣ n) (one-mul c) (g.2 b d (dvd-mul_right b c))

-- two numbers over their greatest common divisor share nothing
pub coprime_over : (a b g : ℕ) → IsGcd a b g → 0 < g → IsGcd (a / g) (b / g) 1
coprime_over a b g h p = (
  one-dvd (a / g),
  one-dvd (b / g),
  λ d u v.
      let u' : d * g ∣ a = subst (λ n. d * g ∣ n) (div-mul_cancel g h.0) (mul-dvd-mul_right d u g) in
      let v' : d * g ∣ b = subst (λ n. d * g ∣ n) (div-mul_cancel g h.1) (mul-dvd-mul_right d v g) in
      dvd_of_mul-dvd-mul_right d p (subst (λ n. d * g ∣ n) (sym (one-mul g)) (h.2 (d * g) u' v')),
)

-- a number that shares nothing with b and with c shares nothing with b * c
pub coprime-mul : (a b c : ℕ) → IsGcd a b 1 → IsGcd a c 1 → IsGcd a (b * c) 1
coprime-mul a b c h k =
    (one-dvd a, one-dvd (b * c), λ d u v. k.2 d u (gauss b d c (one-dvd b, one-dvd d, λ t x y. h.2 t (dvd_trans t y u) x) v))

-- parts of what shares nothing share nothing
pub coprime_parts : (a b c d : ℕ) → IsGcd a b 1 → c ∣ a → d ∣ b → IsGcd c d 1
coprime_parts a b c d h x y = (one-dvd c, one-dvd d, λ t u v. h.2 t (dvd_trans t u x) (dvd_trans t v y))

pub dvd-over : (a g : ℕ) → g ∣ a → a / g ∣ a
dvd-over a g h = subst (λ k. a / g ∣ k) (div-mul_cancel g h) (dvd-mul_right (a / g) g)
