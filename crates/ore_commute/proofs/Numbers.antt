-- The numbers of the closed form, each from the one before.
--     falling_step, falling_rises     one more factor; more factors make no smaller number
--     choose_step, choose_rises, choose_fewer    the same of binomial numbers, and the smaller of j and n - j
--     binomial_from          the next binomial number, with the divisor taken out before the multiplication
--     number_size, factors   the magnitude of a number; no factor is larger
use Rattle.std.proofs.Common.{◌≡◌, ◌≢◌, ℕ, zero, suc, ◌+◌, ◌-◌, ◌*◌, min, ◌/◌, ◌%◌, ◌<◌, ◌≤◌, refl, sym, ap, ◌∙◌, subst, arith}
use Rattle.std.specs.Prelude.{ℤ, pos, negsuc, ◌*ℤ◌, nat_abs}
use Rattle.std.proofs.lemmas.Int.{unsigned_abs-mul}
use Rattle.std.proofs.Math.IntN.{pos-+ℤ-pos}
use Rattle.ore_algebra.specs.Ring.{of_nat, power}
use Rattle.ore_algebra.proofs.Integers.{integers}
use native.Mathlib.Decide.{dec_le}
use Rattle.std.proofs.Math.Nat.{div-add-mod, mul-div_cancel_left, mul-le-mul_right, le_of_mul-le-mul_right}
use Rattle.ore_monomial.specs.Passing.{choose}
use Rattle.ore_commute.specs.ClosedForm.{falling_factorial, number}
use Rattle.ore_commute.proofs.ClosedForm.{falling_next, choose_times}

-- ---- products that fall

falling_one_more : (d i : ℕ) → falling_factorial (d + i) (suc i) ≡ falling_factorial (d + i) i * d
falling_one_more d i = let e = falling_next (d + i) i in omega arith

pub falling_step : (a i : ℕ) → i ≤ a → falling_factorial a (suc i) ≡ falling_factorial a i * (a - i)
falling_step a i h = let e : (a - i) + i ≡ a = omega arith in subst (λ b. falling_factorial b (suc i) ≡ falling_factorial b i * (a - i)) e (falling_one_more (a - i) i)

pub le-times : (x y : ℕ) → 1 ≤ y → x ≤ x * y
le-times x (suc y) h = omega arith
le-times x zero h = absurd (omega arith)

pub falling_rises : (a i k : ℕ) → i ≤ k → k ≤ a → falling_factorial a i ≤ falling_factorial a k
falling_rises a i zero h l = let e : i ≡ 0 = omega arith in subst (λ j. falling_factorial a j ≤ falling_factorial a 0) (sym e) (omega arith)
falling_rises a i (suc k) h l = by (dec_le i k) (λ b. falling_rises a i k b (omega arith))
  where
    by : Dec (i ≤ k) → (i ≤ k → falling_factorial a i ≤ falling_factorial a k) → falling_factorial a i ≤ falling_factorial a (suc k)
    by (yes b) rest = let e = falling_step a k (omega arith) in let r = rest b in let g = le-times (falling_factorial a k) (a - k) (omega arith) in omega arith
    by (no n) rest = let e : i ≡ suc k = omega arith in subst (λ j. falling_factorial a j ≤ falling_factorial a (suc k)) (sym e) (omega arith)

pub falling_from : (a i v : ℕ) → i ≤ a → v ≡ falling_factorial a i → v * (a - i) ≡ falling_factorial a (suc i)
falling_from a i v h e = ap (λ w. w * (a - i)) e ∙ sym (falling_step a i h)

-- ---- binomial numbers

pub choose_none : (n : ℕ) → choose n 0 ≡ 1
unfolding choose
choose_none n = refl

choose_past : (n k : ℕ) → n < k → choose n k ≡ 0
unfolding choose
choose_past n zero h = absurd (omega arith)
choose_past zero (suc k) h = refl
choose_past (suc n) (suc k) h = let e = choose_past n k (omega arith) in let f = choose_past n (suc k) (omega arith) in omega arith

pub choose_all : (n : ℕ) → choose n n ≡ 1
unfolding choose
choose_all zero = refl
choose_all (suc n) = let e = choose_all n in let f = choose_past n (suc n) (omega arith) in omega arith

choose_mirrored : (i j : ℕ) → choose (i + j) i ≡ choose (i + j) j
unfolding choose
choose_mirrored zero j = let e : 0 + j ≡ j = omega arith in ap (λ n. choose n 0) e ∙ sym (choose_all j) ∙ ap (λ n. choose n j) (sym e)
choose_mirrored (suc i) zero = let e : suc i + 0 ≡ suc i = omega arith in ap (λ n. choose n (suc i)) e ∙ choose_all (suc i)
choose_mirrored (suc i) (suc j) =
    let e : suc i + suc j ≡ suc (i + suc j) = omega arith in
    let s : suc i + j ≡ i + suc j = omega arith in
    let p = choose_mirrored i (suc j) in
    let q = subst (λ n. choose n (suc i) ≡ choose n j) s (choose_mirrored (suc i) j) in
    ap (λ n. choose n (suc i)) e
    ∙ (let r : choose (i + suc j) i + choose (i + suc j) (suc i) ≡ choose (i + suc j) j + choose (i + suc j) (suc j) = omega arith in r)
    ∙ ap (λ n. choose n (suc j)) (sym e)

pub choose_back : (n j : ℕ) → j ≤ n → choose n (n - j) ≡ choose n j
choose_back n j h = let e : (n - j) + j ≡ n = omega arith in subst (λ m. choose m (n - j) ≡ choose m j) e (choose_mirrored (n - j) j)

-- C(n,i+1) (i+1) is C(n,i) (n-i)
choose_one_more : (d i : ℕ) → choose (d + i) (suc i) * suc i ≡ choose (d + i) i * d
unfolding choose
choose_one_more d zero = let e : d + 0 ≡ d = omega arith in subst (λ n. choose n 1 * 1 ≡ choose n 0 * d) (sym e) (choose_first d)
  where
    choose_first : (d : ℕ) → choose d 1 * 1 ≡ choose d 0 * d
    choose_first zero = omega arith
    choose_first (suc d) = let e = choose_first d in let f = choose_none d in omega arith
choose_one_more d (suc i) =
    let e : d + suc i ≡ suc (d + i) = omega arith in
    subst (λ n. choose n (suc (suc i)) * suc (suc i) ≡ choose n (suc i) * d) (sym e)
    (let p = choose_times (d + i) (suc i) in let q = choose_times (d + i) i in let r = choose_one_more d i in omega arith)

pub choose_step : (n i : ℕ) → i ≤ n → choose n (suc i) * suc i ≡ choose n i * (n - i)
choose_step n i h = let e : (n - i) + i ≡ n = omega arith in subst (λ m. choose m (suc i) * suc i ≡ choose m i * (n - i)) e (choose_one_more (n - i) i)

choose_rises_once : (n i : ℕ) → suc i + i ≤ n → choose n i ≤ choose n (suc i)
choose_rises_once n i h = by (choose n i) (choose n (suc i)) (n - i) (choose_step n i (omega arith)) (omega arith)
  where
    by : (x y d : ℕ) → y * suc i ≡ x * d → suc i ≤ d → x ≤ y
    by x y d e l = le_of_mul-le-mul_right {k = suc i} (let r : suc i * x ≤ d * x = mul-le-mul_right x l in omega arith) (omega arith)

pub choose_rises : (n i k : ℕ) → i ≤ k → k + k ≤ n → choose n i ≤ choose n k
choose_rises n i zero h l = let e : i ≡ 0 = omega arith in subst (λ j. choose n j ≤ choose n 0) (sym e) (omega arith)
choose_rises n i (suc k) h l = by (dec_le i k) (λ b. choose_rises n i k b (omega arith))
  where
    by : Dec (i ≤ k) → (i ≤ k → choose n i ≤ choose n k) → choose n i ≤ choose n (suc k)
    by (yes b) rest = let r = rest b in let s = choose_rises_once n k (omega arith) in omega arith
    by (no n') rest = let e : i ≡ suc k = omega arith in subst (λ j. choose n j ≤ choose n (suc k)) (sym e) (omega arith)

-- the smaller of j and n - j gives the same binomial number
pub choose_fewer : (n j : ℕ) → j ≤ n → choose n (min j (n - j)) ≡ choose n j
choose_fewer n j h = by (dec_le j (n - j))
  where
    by : Dec (j ≤ n - j) → choose n (min j (n - j)) ≡ choose n j
    by (yes l) = let e : min j (n - j) ≡ j = omega arith in ap (choose n) e
    by (no k) = let e : min j (n - j) ≡ n - j = omega arith in ap (choose n) e ∙ choose_back n j h

-- ---- powers, and whole numbers

pub nat_abs-times : (x y : ℤ) → nat_abs (x *ℤ y) ≡ nat_abs x * nat_abs y
nat_abs-times x y = unsigned_abs-mul x y

pub apart_zero : (x : ℤ) → x ≢ pos 0 → 1 ≤ nat_abs x
apart_zero (pos zero) n = absurd (n refl)
apart_zero (pos (suc x)) n = omega arith
apart_zero (negsuc x) n = omega arith

pub power_rises : (h : ℤ) (i k : ℕ) → h ≢ pos 0 → i ≤ k → nat_abs (power integers.ring h i) ≤ nat_abs (power integers.ring h k)
power_rises h i zero p l = let e : i ≡ 0 = omega arith in subst (λ j. nat_abs (power integers.ring h j) ≤ 1) (sym e) (omega arith)
power_rises h i (suc k) p l = by (dec_le i k) (λ b. power_rises h i k p b)
  where
    by : Dec (i ≤ k) → (i ≤ k → nat_abs (power integers.ring h i) ≤ nat_abs (power integers.ring h k)) → nat_abs (power integers.ring h i) ≤ nat_abs (power integers.ring h (suc k))
    by (yes b) rest = let r = rest b in let e = nat_abs-times h (power integers.ring h k) in let g = le-times (nat_abs (power integers.ring h k)) (nat_abs h) (apart_zero h p) in omega arith
    by (no n) rest = let e : i ≡ suc k = omega arith in subst (λ j. nat_abs (power integers.ring h j) ≤ nat_abs (power integers.ring h (suc k))) (sym e) (omega arith)

pub power_apart : (h : ℤ) (j : ℕ) → (0 < j → h ≢ pos 0) → 1 ≤ nat_abs (power integers.ring h j)
power_apart h zero n = omega arith
power_apart h (suc j) n = power_rises h 0 (suc j) (n (omega arith)) (omega arith)

-- a quotient times a factor, and the rest of it
divided_more : (D q r f d : ℕ) → 0 < d → (q * f + D) * d ≡ (d * q + r) * f → q * f + r * f / d ≡ q * f + D
divided_more D q r f d p e = let s : r * f ≡ d * D = omega arith in ap (λ x. q * f + x / d) s ∙ ap (λ x. q * f + x) (mul-div_cancel_left D p)

divided_sum : (C q r f d : ℕ) → 0 < d → C * d ≡ (d * q + r) * f → q * f + r * f / d ≡ C
divided_sum C q r f d p e =
    let l : q * f ≤ C = le_of_mul-le-mul_right {k = d} (omega arith) p in
    let s : q * f + (C - q * f) ≡ C = omega arith in
    divided_more (C - q * f) q r f d p (ap (λ x. x * d) s ∙ e) ∙ s

-- from one binomial number to the next, with the divisor taken out before the multiplication
pub binomial_from : (n i v : ℕ) → i < n → v ≡ choose n i → v / suc i * (n - i) + v % suc i * (n - i) / suc i ≡ choose n (suc i)
binomial_from n i v h e = divided_sum (choose n (suc i)) (v / suc i) (v % suc i) (n - i) (suc i) (omega arith)
    (choose_step n i (omega arith) ∙ ap (λ w. w * (n - i)) (sym e ∙ sym (div-add-mod v (suc i))))

-- ---- the number of a term

pub of_nat-is : (n : ℕ) → of_nat integers.ring n ≡ pos n
of_nat-is zero = refl
of_nat-is (suc n) = ap (λ z. integers.plus (pos 1) z) (of_nat-is n) ∙ pos-+ℤ-pos 1 n ∙ ap pos (let e : 1 + n ≡ suc n = omega arith in e)

pub number_is : (h : ℤ) (c a k j : ℕ) → number integers h c a k j ≡ pos (choose c k * falling_factorial a k) *ℤ (pos (choose (a - k) j) *ℤ power integers.ring h j)
unfolding number
number_is h c a k j = λ i. of_nat-is (choose c k * falling_factorial a k) i *ℤ (of_nat-is (choose (a - k) j) i *ℤ power integers.ring h j)

pub number_size : (h : ℤ) (c a k j : ℕ) → nat_abs (number integers h c a k j) ≡ (choose c k * falling_factorial a k) * (choose (a - k) j * nat_abs (power integers.ring h j))
number_size h c a k j =
    ap nat_abs (number_is h c a k j)
    ∙ nat_abs-times (pos (choose c k * falling_factorial a k)) (pos (choose (a - k) j) *ℤ power integers.ring h j)
    ∙ ap (λ x. (choose c k * falling_factorial a k) * x) (nat_abs-times (pos (choose (a - k) j)) (power integers.ring h j))

pub choose_apart : (n j : ℕ) → j ≤ n → 1 ≤ choose n j
unfolding choose
choose_apart n zero h = omega arith
choose_apart zero (suc j) h = absurd (omega arith)
choose_apart (suc n) (suc j) h = let r = choose_apart n j (omega arith) in omega arith

pub falling_apart : (a k : ℕ) → k ≤ a → 1 ≤ falling_factorial a k
unfolding falling_factorial
falling_apart a k h = falling_rises a 0 k (omega arith) h

-- no factor of a number is larger than it
pub record AreWithin (h : ℤ) (c a k j : ℕ) : Type 0 where
  pub chosen : choose c k ≤ nat_abs (number integers h c a k j)
  pub fallen : falling_factorial a k ≤ nat_abs (number integers h c a k j)
  pub spent : choose c k * falling_factorial a k ≤ nat_abs (number integers h c a k j)
  pub places : choose (a - k) j ≤ nat_abs (number integers h c a k j)
  pub steps : nat_abs (power integers.ring h j) ≤ nat_abs (number integers h c a k j)
  pub shifted : nat_abs (pos (choose (a - k) j) *ℤ power integers.ring h j) ≤ nat_abs (number integers h c a k j)

times-le : (x y z : ℕ) → 1 ≤ y → z ≤ x → z ≤ x * y
times-le x y z h l = let e = le-times x y h in omega arith

le_after : (x y : ℕ) → 1 ≤ y → x ≤ y * x
le_after x y h = let e = le-times x y h in omega arith

product_apart : (x y : ℕ) → 1 ≤ x → 1 ≤ y → 1 ≤ x * y
product_apart x y h l = times-le x y 1 l h

pub factors : (h : ℤ) (c a k j : ℕ) → k ≤ c → k + j ≤ a → (0 < j → h ≢ pos 0) → AreWithin h c a k j
factors h c a k j kc ja n =
    let C = choose c k in let F = falling_factorial a k in let D = choose (a - k) j in let P = nat_abs (power integers.ring h j) in
    let c1 : 1 ≤ C = choose_apart c k kc in
    let f1 : 1 ≤ F = falling_apart a k (omega arith) in
    let d1 : 1 ≤ D = choose_apart (a - k) j (omega arith) in
    let p1 : 1 ≤ P = power_apart h j n in
    let e : nat_abs (number integers h c a k j) ≡ (C * F) * (D * P) = number_size h c a k j in
    let g : nat_abs (pos D *ℤ power integers.ring h j) ≡ D * P = nat_abs-times (pos D) (power integers.ring h j) in
    let x1 = le-times C F f1 in let x2 = le_after F C c1 in let x3 = le-times (C * F) (D * P) (product_apart D P d1 p1) in
    let x4 = le-times D P p1 in let x5 = le_after P D d1 in let x6 = le_after (D * P) (C * F) (product_apart C F c1 f1) in
    record {
      chosen = subst (λ z. C ≤ z) (sym e) (omega arith);
      fallen = subst (λ z. F ≤ z) (sym e) (omega arith);
      spent = subst (λ z. C * F ≤ z) (sym e) x3;
      places = subst (λ z. D ≤ z) (sym e) (omega arith);
      steps = subst (λ z. P ≤ z) (sym e) (omega arith);
      shifted = subst (λ z. z ≤ nat_abs (number integers h c a k j)) (sym g) (subst (λ z. D * P ≤ z) (sym e) x6);
    }

pub number_apart : (h : ℤ) (c a k j : ℕ) → k ≤ c → k + j ≤ a → (0 < j → h ≢ pos 0) → number integers h c a k j ≢ pos 0
number_apart h c a k j kc ja n e =
    let f = (factors h c a k j kc ja n).chosen in let c1 = choose_apart c k kc in
    let z : nat_abs (number integers h c a k j) ≡ 0 = ap nat_abs e in absurd (omega arith)

pub number_first : (h : ℤ) (c a : ℕ) → number integers h c a 0 0 ≡ pos 1
unfolding number choose falling_factorial
number_first h c a = refl
