-- What a program computes are the sums and products of fractions.
--     sum_is, sum_reduced              the numbers that a program forms are the sum, in lowest terms
--     product_is_mul, product_reduced  the same of a product, where
--     first_gcd, second_gcd,           what is cancelled crosswise, and the parts of the reduced product
--     product_num, product_den
--     add-num, mul-den, ..             the parts of sums, products, opposites and inverses
-- The ring and the field of fractions are those of `specs/FractionRing.antt` and `specs/Field.antt`.
use Rattle.std.proofs.Common.{◌≡◌, ℕ, suc, ◌*◌, ◌/◌, ◌<◌, ℤ, pos, negsuc, ◌+ℤ◌, ◌*ℤ◌, neg_ℤ, nat_abs, refl, sym, ap, ap₂, ◌∙◌, subst, zero-lt-suc, mul-pos, [], ◌∷◌}
use Rattle.std.proofs.lemmas.Nat.Gcd.{IsGcd-swap, dvd_refl}
use Rattle.std.proofs.lemmas.Int.{unsigned_abs-mul}
use native.Mathlib.Nat.{div-mul_cancel, dvd-mul_left, one-dvd, dvd_trans, pos_of_dvd_of_pos, mul-div_assoc}
use Prim.Native.Nat.{◌∣◌}
use lib.IntN.{+ℤ_comm}
use Rattle.std.specs.Int.{IsGcd}
use Rattle.ore_rational.specs.Gcd.{gcd, gcd_is, gauss, coprime_over, coprime-mul, coprime_parts, dvd-over}
use Rattle.ore_rational.specs.Within.{sum_gcd, sum_num, sum_rest, sum_den}
use Rattle.ore_rational.specs.Fraction.{Fraction, over, abs-over, abs-neg, add, mul, neg, inverse}
use Rattle.ore_rational.specs.Reduced.{same_fraction, num-reduce, den-reduce}
use Rattle.ore_algebra.proofs.Normal.{◌⊕◌, ◌⊖◌, ◌⊗◌, v0, v1, v2, v3, v4, v5}
use Rattle.ore_rational.specs.FractionRing.{in_wholes, cancel, Is, unique, same, change, over-mul, reduce_is, is_self, is_whole, is_add, is_mul, is_neg, zero-num, mul-inverse, fraction_discrete, fraction_ring, whole-add, whole-mul, whole-neg, of_nat-is_whole, of_int-is_whole, whole_injective, one_apart, of_nat-ne-zero, mul_comm, mul_apart}

-- ---- what a program computes with
pub is_made : (r : Fraction) (n : ℤ) (d : ℕ) → r.num ≡ n → r.den ≡ d → Is r n d
is_made r n d e f = record { above = subst (λ k. 0 < k) f r.positive; cross = ap₂ (λ a b. a *ℤ pos b) e (sym f) }

dvd-abs-sum : (t : ℕ) (u v : ℤ) → t ∣ nat_abs (u +ℤ v) → t ∣ nat_abs v → t ∣ nat_abs u
dvd-abs-sum t u v h k =
    let x = over (u +ℤ v) t in
    let y = over v t in
    let e : (x +ℤ neg_ℤ y) *ℤ pos t ≡ u =
    in_wholes (x ∷ y ∷ pos t ∷ []) ((v0 ⊖ v1) ⊗ v2) (v0 ⊗ v2 ⊖ v1 ⊗ v2) refl
    ∙ ap₂ (λ a b. a +ℤ neg_ℤ b) (over-mul (u +ℤ v) t h) (over-mul v t k)
    ∙ in_wholes (u ∷ v ∷ []) (v0 ⊕ v1 ⊖ v1) v0 refl in
    subst (λ n. t ∣ n) (sym (unsigned_abs-mul (x +ℤ neg_ℤ y) (pos t)) ∙ ap nat_abs e) (dvd-mul_left t (nat_abs (x +ℤ neg_ℤ y)))

-- a divisor of a d' + c b' shares nothing with b', where a and b, b' and d' share nothing, and b' divides b
sum_apart : (a c : ℤ) (b b' d' m : ℕ) → IsGcd (nat_abs a) b 1 → b' ∣ b → IsGcd b' d' 1 → m ∣ nat_abs ((a *ℤ pos d') +ℤ (c *ℤ pos b')) → IsGcd m b' 1
sum_apart a c b b' d' m h l k x = (
  one-dvd m,
  one-dvd b',
  λ t u v.
      let right : t ∣ nat_abs (c *ℤ pos b') = subst (λ n. t ∣ n) (sym (unsigned_abs-mul c (pos b'))) (dvd_trans t v (dvd-mul_left b' (nat_abs c))) in
      let left : t ∣ nat_abs a * d' = subst (λ n. t ∣ n) (unsigned_abs-mul a (pos d')) (dvd-abs-sum t (a *ℤ pos d') (c *ℤ pos b') (dvd_trans t u x) right) in
      k.2 t v (gauss (nat_abs a) t d' (coprime_parts (nat_abs a) b (nat_abs a) t h (dvd_refl (nat_abs a)) (dvd_trans t v l)) left),
)

-- the sum as a program forms it
module _ (p q : Fraction) where
  sum_gcd-pos : 0 < (sum_gcd p q)
  sum_gcd-pos = pos_of_dvd_of_pos (gcd_is p.den q.den).0 p.positive

  sum_rest-pos : 0 < (sum_rest p q)
  sum_rest-pos = pos_of_dvd_of_pos (gcd_is (nat_abs (sum_num p q)) (sum_gcd p q)).1 sum_gcd-pos

  rest-den : (sum_rest p q) ∣ q.den
  rest-den = dvd_trans (sum_rest p q) (gcd_is (nat_abs (sum_num p q)) (sum_gcd p q)).1 (gcd_is p.den q.den).1

  pub sum_den-pos : 0 < (sum_den p q)
  sum_den-pos = mul-pos (pos_of_dvd_of_pos (dvd-over p.den (sum_gcd p q) (gcd_is p.den q.den).0) p.positive) (pos_of_dvd_of_pos (dvd-over q.den (sum_rest p q) rest-den) q.positive)

  pub sum_reduced : IsGcd (nat_abs (over (sum_num p q) (sum_rest p q))) (sum_den p q) 1
  sum_reduced =
      let g = gcd_is p.den q.den in
      let e = gcd_is (nat_abs (sum_num p q)) (sum_gcd p q) in
      let apart : IsGcd (p.den / (sum_gcd p q)) (q.den / (sum_gcd p q)) 1 = coprime_over p.den q.den (sum_gcd p q) g sum_gcd-pos in
      let m = nat_abs (sum_num p q) / (sum_rest p q) in
      let md : m ∣ nat_abs (sum_num p q) = dvd-over (nat_abs (sum_num p q)) (sum_rest p q) e.0 in
      let one : IsGcd m (p.den / (sum_gcd p q)) 1 = sum_apart p.num q.num p.den (p.den / (sum_gcd p q)) (q.den / (sum_gcd p q)) m p.reduced (dvd-over p.den (sum_gcd p q) g.0) apart md in
      let two : IsGcd m (q.den / (sum_gcd p q)) 1 =
      sum_apart q.num p.num q.den (q.den / (sum_gcd p q)) (p.den / (sum_gcd p q)) m q.reduced (dvd-over q.den (sum_gcd p q) g.1) (IsGcd-swap _ _ _ apart)
      (subst (λ z. m ∣ nat_abs z) (+ℤ_comm (p.num *ℤ pos (q.den / (sum_gcd p q))) (q.num *ℤ pos (p.den / (sum_gcd p q)))) md) in
      let three : IsGcd m ((sum_gcd p q) / (sum_rest p q)) 1 = coprime_over (nat_abs (sum_num p q)) (sum_gcd p q) (sum_rest p q) e sum_rest-pos in
      let k : q.den / (sum_rest p q) ≡ (q.den / (sum_gcd p q)) * ((sum_gcd p q) / (sum_rest p q)) = ap (λ n. n / (sum_rest p q)) (sym (div-mul_cancel (sum_gcd p q) g.1)) ∙ mul-div_assoc (sum_rest p q) (q.den / (sum_gcd p q)) e.1 in
      subst (λ n. IsGcd n (sum_den p q) 1) (sym (abs-over (sum_num p q) (sum_rest p q)))
      (coprime-mul m (p.den / (sum_gcd p q)) (q.den / (sum_rest p q)) one (subst (λ n. IsGcd m n 1) (sym k) (coprime-mul m (q.den / (sum_gcd p q)) ((sum_gcd p q) / (sum_rest p q)) two three)))

  pub sum_is : (r : Fraction) → r.num ≡ over (sum_num p q) (sum_rest p q) → r.den ≡ (sum_den p q) → r ≡ add p q
  sum_is r x y =
      let g = gcd_is p.den q.den in
      let e = gcd_is (nat_abs (sum_num p q)) (sum_gcd p q) in
      let b = p.den / (sum_gcd p q) in
      let d = q.den / (sum_gcd p q) in
      let k = q.den / (sum_rest p q) in
      let n = over (sum_num p q) (sum_rest p q) in
      let pd : pos b *ℤ pos (sum_gcd p q) ≡ pos p.den = ap pos (div-mul_cancel (sum_gcd p q) g.0) in
      let qd : pos d *ℤ pos (sum_gcd p q) ≡ pos q.den = ap pos (div-mul_cancel (sum_gcd p q) g.1) in
      let qk : pos k *ℤ pos (sum_rest p q) ≡ pos q.den = ap pos (div-mul_cancel (sum_rest p q) rest-den) in
      let ne : n *ℤ pos (sum_rest p q) ≡ (sum_num p q) = over-mul (sum_num p q) (sum_rest p q) e.0 in
      same (is_made r n (sum_den p q) x y) (is_add (is_self p) (is_self q))
      (ap₂ (λ s t. n *ℤ (s *ℤ t)) (sym pd) (sym qk)
      ∙ in_wholes (n ∷ pos b ∷ pos (sum_gcd p q) ∷ pos k ∷ pos (sum_rest p q) ∷ []) (v0 ⊗ (v1 ⊗ v2 ⊗ (v3 ⊗ v4))) (v0 ⊗ v4 ⊗ (v2 ⊗ v1 ⊗ v3)) refl
      ∙ ap (λ s. s *ℤ (pos (sum_gcd p q) *ℤ pos b *ℤ pos k)) ne
      ∙ in_wholes (p.num ∷ pos d ∷ q.num ∷ pos b ∷ pos (sum_gcd p q) ∷ pos k ∷ []) ((v0 ⊗ v1 ⊕ v2 ⊗ v3) ⊗ (v4 ⊗ v3 ⊗ v5)) ((v0 ⊗ (v1 ⊗ v4) ⊕ v2 ⊗ (v3 ⊗ v4)) ⊗ (v3 ⊗ v5)) refl
      ∙ ap₂ (λ s t. ((p.num *ℤ s) +ℤ (q.num *ℤ t)) *ℤ (pos b *ℤ pos k)) qd pd)

-- the product as a program forms it
module _ (p q : Fraction) where
  abbrev pub first_gcd : ℕ
  first_gcd = gcd (nat_abs p.num) q.den

  abbrev pub second_gcd : ℕ
  second_gcd = gcd (nat_abs q.num) p.den

  abbrev pub product_num : ℤ
  product_num = over p.num first_gcd *ℤ over q.num second_gcd

  abbrev pub product_den : ℕ
  product_den = (p.den / second_gcd) * (q.den / first_gcd)

  first-pos : 0 < first_gcd
  first-pos = pos_of_dvd_of_pos (gcd_is (nat_abs p.num) q.den).1 q.positive

  second-pos : 0 < second_gcd
  second-pos = pos_of_dvd_of_pos (gcd_is (nat_abs q.num) p.den).1 p.positive

  pub product_den-pos : 0 < product_den
  product_den-pos =
      mul-pos (pos_of_dvd_of_pos (dvd-over p.den second_gcd (gcd_is (nat_abs q.num) p.den).1) p.positive) (pos_of_dvd_of_pos (dvd-over q.den first_gcd (gcd_is (nat_abs p.num) q.den).1) q.positive)

  pub product_reduced : IsGcd (nat_abs product_num) product_den 1
  product_reduced =
      let g = gcd_is (nat_abs p.num) q.den in
      let h = gcd_is (nat_abs q.num) p.den in
      let a = nat_abs p.num / first_gcd in
      let c = nat_abs q.num / second_gcd in
      let b = p.den / second_gcd in
      let d = q.den / first_gcd in
      let ab : IsGcd a b 1 = coprime_parts (nat_abs p.num) p.den a b p.reduced (dvd-over _ _ g.0) (dvd-over _ _ h.1) in
      let cd : IsGcd c d 1 = coprime_parts (nat_abs q.num) q.den c d q.reduced (dvd-over _ _ h.0) (dvd-over _ _ g.1) in
      let ad : IsGcd a d 1 = coprime_over (nat_abs p.num) q.den first_gcd g first-pos in
      let cb : IsGcd c b 1 = coprime_over (nat_abs q.num) p.den second_gcd h second-pos in
      let e : nat_abs product_num ≡ a * c = unsigned_abs-mul (over p.num first_gcd) (over q.num second_gcd) ∙ ap₂ ◌*◌ (abs-over p.num first_gcd) (abs-over q.num second_gcd) in
      subst (λ n. IsGcd n product_den 1) (sym e)
      (IsGcd-swap _ _ _ (coprime-mul product_den a c (IsGcd-swap _ _ _ (coprime-mul a b d ab ad)) (IsGcd-swap _ _ _ (coprime-mul c b d cb cd))))

  pub product_is_mul : (r : Fraction) → r.num ≡ product_num → r.den ≡ product_den → r ≡ mul p q
  product_is_mul r x y =
      let g = gcd_is (nat_abs p.num) q.den in
      let h = gcd_is (nat_abs q.num) p.den in
      let a = over p.num first_gcd in
      let c = over q.num second_gcd in
      let b = p.den / second_gcd in
      let d = q.den / first_gcd in
      same (is_made r product_num product_den x y) (is_mul (is_self p) (is_self q))
      (ap₂ (λ s t. a *ℤ c *ℤ (pos s *ℤ pos t)) (sym (div-mul_cancel second_gcd h.1)) (sym (div-mul_cancel first_gcd g.1))
      ∙ in_wholes (a ∷ c ∷ pos b ∷ pos second_gcd ∷ pos d ∷ pos first_gcd ∷ []) (v0 ⊗ v1 ⊗ (v2 ⊗ v3 ⊗ (v4 ⊗ v5))) (v0 ⊗ v5 ⊗ (v1 ⊗ v3) ⊗ (v2 ⊗ v4)) refl
      ∙ ap₂ (λ s t. s *ℤ t *ℤ (pos b *ℤ pos d)) (over-mul p.num first_gcd g.0) (over-mul q.num second_gcd h.0))

-- the parts of a sum and of a product
pub add-num : (p q : Fraction) → (add p q).num ≡ over (sum_num p q) (sum_rest p q)
add-num p q = ap (λ r. r.num) (sym (sum_is p q (record { num = over (sum_num p q) (sum_rest p q); den = sum_den p q; positive = sum_den-pos p q; reduced = sum_reduced p q }) refl refl))

pub add-den : (p q : Fraction) → (add p q).den ≡ sum_den p q
add-den p q = ap (λ r. r.den) (sym (sum_is p q (record { num = over (sum_num p q) (sum_rest p q); den = sum_den p q; positive = sum_den-pos p q; reduced = sum_reduced p q }) refl refl))

pub mul-num : (p q : Fraction) → (mul p q).num ≡ product_num p q
mul-num p q = ap (λ r. r.num) (sym (product_is_mul p q (record { num = product_num p q; den = product_den p q; positive = product_den-pos p q; reduced = product_reduced p q }) refl refl))

pub mul-den : (p q : Fraction) → (mul p q).den ≡ product_den p q
mul-den p q = ap (λ r. r.den) (sym (product_is_mul p q (record { num = product_num p q; den = product_den p q; positive = product_den-pos p q; reduced = product_reduced p q }) refl refl))

pub neg-num : (p : Fraction) → (neg p).num ≡ neg_ℤ p.num
unfolding neg
neg-num p = num-reduce (neg_ℤ p.num) p.den p.positive (subst (λ n. IsGcd n p.den 1) (sym (abs-neg p.num)) p.reduced)

pub neg-den : (p : Fraction) → (neg p).den ≡ p.den
unfolding neg
neg-den p = den-reduce (neg_ℤ p.num) p.den p.positive (subst (λ n. IsGcd n p.den 1) (sym (abs-neg p.num)) p.reduced)

pub same_parts : (r p : Fraction) → r.num ≡ p.num → pos r.den ≡ pos p.den → r ≡ p
same_parts r p e f = same_fraction r p e (cc f)

-- 1 / p, by the sign of p
pub inverse-above : (p : Fraction) (n : ℕ) → p.num ≡ pos (suc n) → ((inverse p).num ≡ pos p.den) × ((inverse p).den ≡ suc n)
unfolding inverse
inverse-above p n e =
    let c : IsGcd p.den (suc n) 1 = IsGcd-swap _ _ _ (subst (λ k. IsGcd (nat_abs k) p.den 1) e p.reduced) in
    rw e (num-reduce (pos p.den) (suc n) (zero-lt-suc n) c, den-reduce (pos p.den) (suc n) (zero-lt-suc n) c)

pub inverse-below : (p : Fraction) (n : ℕ) → p.num ≡ negsuc n → ((inverse p).num ≡ neg_ℤ (pos p.den)) × ((inverse p).den ≡ suc n)
unfolding inverse
inverse-below p n e =
    let c : IsGcd (nat_abs (neg_ℤ (pos p.den))) (suc n) 1 =
    subst (λ k. IsGcd k (suc n) 1) (sym (abs-neg (pos p.den))) (IsGcd-swap _ _ _ (subst (λ k. IsGcd (nat_abs k) p.den 1) e p.reduced)) in
    rw e (num-reduce (neg_ℤ (pos p.den)) (suc n) (zero-lt-suc n) c, den-reduce (neg_ℤ (pos p.den)) (suc n) (zero-lt-suc n) c)
