-- The ring of fractions, with the laws that it carries.
--     in_wholes                        an equation between whole numbers, by the normaliser
--     Is p n d                         the fraction p is n / d, where n / d need not be reduced
--     is_add, is_mul, ..               what fractions formed from n / d and m / e are
--     same, unique                     fractions that are n / d and m / e are equal where n e = m d
--     fraction_discrete                fractions are told apart
--     fraction_ring                    the ring of fractions
--     whole-add, whole-mul, ..         whole numbers keep their sums and products as fractions
--     mul-inverse, mul_apart, ..       what makes the ring a field
--     cancel, change                   a factor above 0 is dropped; the same fraction over another denominator
--     over-mul, zero-num               a quotient times its divisor; a fraction with numerator 0
--     reduce_is, is_self, is_whole, is_neg  what reduced pairs, fractions, whole numbers and negatives are
--     whole-neg, of_nat-is_whole, of_int-is_whole  negatives and sums of ones as fractions
--     whole_injective, one_apart, of_nat-ne-zero  different whole numbers are different fractions
--     mul_comm                         products of fractions don't depend on the order
use Rattle.std.proofs.Common.{◌≡◌, ℕ, zero, suc, ◌+◌, ◌*◌, ◌/◌, ◌<◌, ℤ, pos, negsuc, ◌+ℤ◌, ◌*ℤ◌, neg_ℤ, nat_abs, arith, refl, sym, ap, ap₂, ◌∙◌, subst, zero-lt-suc, mul-pos, ◌≢◌, List, [], ◌∷◌}
use Rattle.std.proofs.lemmas.Int.{unsigned_abs-mul}
use native.Mathlib.Nat.{div-mul_cancel, dvd_antisymm, dvd-mul_left}
use native.Mathlib.Nat as NatL
use native.Mathlib.Decide.{ℕ_discrete}
use Prim.Native.Nat.{◌∣◌}
use mathlib.Core.HLevel.{hedberg}
use lib.IntN.{ℤ_discrete, *ℤ_comm}
use borrow.Author.Differences.{up, down, same_in, same_out, product_is}
use Rattle.ore_rational.specs.Gcd.{gcd, gcd_is, gauss}
use Rattle.ore_algebra.specs.Ring.{Ring, of_nat, of_int}
use Rattle.ore_algebra.proofs.Integers.{integer_ring}
use Rattle.ore_rational.specs.Fraction.{Fraction, over, whole, reduce, add, mul, neg, unit_over, inverse}
use Rattle.ore_rational.specs.Reduced.{same_fraction}
use Rattle.ore_algebra.proofs.RingLaws
use Rattle.ore_algebra.proofs.FieldLaws
use Rattle.ore_algebra.proofs.Normal.{Expr, nil, one, minus, ◌⊕◌, ◌⊗◌, v0, v1, v2, v3, v4, v5, normal, sorted}
use Rattle.ore_algebra.proofs.NormalIs.{value, in_commutative}

-- an equation between whole numbers; the expressions' variables are the numbers of the list
pub in_wholes : (xs : List ℤ) (e f : Expr) → normal sorted e ≡ normal sorted f → value integer_ring xs e ≡ value integer_ring xs f
in_wholes xs e f h = in_commutative integer_ring xs *ℤ_comm e f h

-- a factor above 0 is dropped
pub cancel : (a b : ℤ) (d : ℕ) → 0 < d → a *ℤ pos d ≡ b *ℤ pos d → a ≡ b
cancel a b d p e =
    same_in a b (NatL.eq_of_mul-eq-mul_right d p (up a + down b) (up b + down a) (omega (arith, same_out _ _ e, product_is a (pos d), product_is b (pos d))))

-- ---- p is n / d
pub record Is (p : Fraction) (n : ℤ) (d : ℕ) : Type 0 where
  pub above : 0 < d
  pub cross : p.num *ℤ pos d ≡ n *ℤ pos p.den

pub unique : (p q : Fraction) → p.num *ℤ pos q.den ≡ q.num *ℤ pos p.den → p ≡ q
unique p q e =
    let e' : nat_abs p.num * q.den ≡ nat_abs q.num * p.den = sym (unsigned_abs-mul p.num (pos q.den)) ∙ ap nat_abs e ∙ unsigned_abs-mul q.num (pos p.den) in
    let f : p.den ≡ q.den =
    dvd_antisymm
    (gauss (nat_abs p.num) p.den q.den p.reduced (subst (λ n. p.den ∣ n) (sym e') (dvd-mul_left p.den (nat_abs q.num))))
    (gauss (nat_abs q.num) q.den p.den q.reduced (subst (λ n. q.den ∣ n) e' (dvd-mul_left q.den (nat_abs p.num)))) in
    same_fraction p q (cancel p.num q.num q.den q.positive (e ∙ ap (λ n. q.num *ℤ pos n) f)) f

pub same : {p q : Fraction} {n m : ℤ} {d e : ℕ} → Is p n d → Is q m e → n *ℤ pos e ≡ m *ℤ pos d → p ≡ q
same {p} {q} {n} {m} {d} {e} h k x =
    unique p q (cancel (p.num *ℤ pos q.den) (q.num *ℤ pos p.den) (d * e) (mul-pos h.above k.above)
    (in_wholes (p.num ∷ pos q.den ∷ pos d ∷ pos e ∷ []) ((v0 ⊗ v1) ⊗ (v2 ⊗ v3)) ((v0 ⊗ v2) ⊗ (v1 ⊗ v3)) refl
    ∙ ap (λ t. t *ℤ (pos q.den *ℤ pos e)) h.cross
    ∙ in_wholes (n ∷ pos p.den ∷ pos q.den ∷ pos e ∷ []) ((v0 ⊗ v1) ⊗ (v2 ⊗ v3)) ((v0 ⊗ v3) ⊗ (v1 ⊗ v2)) refl
    ∙ ap (λ t. t *ℤ (pos p.den *ℤ pos q.den)) x
    ∙ in_wholes (m ∷ pos d ∷ pos p.den ∷ pos q.den ∷ []) ((v0 ⊗ v1) ⊗ (v2 ⊗ v3)) ((v0 ⊗ v3) ⊗ (v2 ⊗ v1)) refl
    ∙ ap (λ t. t *ℤ (pos p.den *ℤ pos d)) (sym k.cross)
    ∙ in_wholes (q.num ∷ pos e ∷ pos p.den ∷ pos d ∷ []) ((v0 ⊗ v1) ⊗ (v2 ⊗ v3)) ((v0 ⊗ v2) ⊗ (v3 ⊗ v1)) refl))

-- the same number over another denominator
pub change : {p : Fraction} {n m : ℤ} {d e : ℕ} → Is p n d → 0 < e → n *ℤ pos e ≡ m *ℤ pos d → Is p m e
change {p} {n} {m} {d} {e} h a x = record {
  above = a;
  cross = cancel (p.num *ℤ pos e) (m *ℤ pos p.den) d h.above
      (in_wholes (p.num ∷ pos e ∷ pos d ∷ []) (v0 ⊗ v1 ⊗ v2) (v0 ⊗ v2 ⊗ v1) refl
      ∙ ap (λ t. t *ℤ pos e) h.cross
      ∙ in_wholes (n ∷ pos p.den ∷ pos e ∷ []) (v0 ⊗ v1 ⊗ v2) (v0 ⊗ v2 ⊗ v1) refl
      ∙ ap (λ t. t *ℤ pos p.den) x
      ∙ in_wholes (m ∷ pos d ∷ pos p.den ∷ []) (v0 ⊗ v1 ⊗ v2) (v0 ⊗ v2 ⊗ v1) refl);
}

pub over-mul : (n : ℤ) (g : ℕ) → g ∣ nat_abs n → over n g *ℤ pos g ≡ n
over-mul (pos n) g h = ap pos (div-mul_cancel g h)
over-mul (negsuc n) g h = RingLaws.neg-mul integer_ring (pos (suc n / g)) (pos g) ∙ ap (λ k. neg_ℤ (pos k)) (div-mul_cancel g h)

pub reduce_is : (n : ℤ) (d : ℕ) → 0 < d → Is (reduce n d) n d
unfolding reduce
reduce_is n zero p = absurd (omega arith)
reduce_is n (suc d) p =
    let g = gcd (nat_abs n) (suc d) in
    record {
      above = p;
      cross =
          ap (λ k. over n g *ℤ pos k) (sym (div-mul_cancel g (gcd_is (nat_abs n) (suc d)).1))
          ∙ in_wholes (over n g ∷ pos (suc d / g) ∷ pos g ∷ []) (v0 ⊗ (v1 ⊗ v2)) (v0 ⊗ v2 ⊗ v1) refl
          ∙ ap (λ t. t *ℤ pos (suc d / g)) (over-mul n g (gcd_is (nat_abs n) (suc d)).0);
    }

pub is_self : (p : Fraction) → Is p p.num p.den
is_self p = record { above = p.positive; cross = refl }

pub is_whole : (z : ℤ) → Is (whole z) z 1
is_whole z = is_self (whole z)

pub is_add : {p q : Fraction} {n m : ℤ} {d e : ℕ} → Is p n d → Is q m e → Is (add p q) ((n *ℤ pos e) +ℤ (m *ℤ pos d)) (d * e)
unfolding add
is_add {p} {q} {n} {m} {d} {e} h k =
    change (reduce_is ((p.num *ℤ pos q.den) +ℤ (q.num *ℤ pos p.den)) (p.den * q.den) (mul-pos p.positive q.positive)) (mul-pos h.above k.above)
    (in_wholes (p.num ∷ pos q.den ∷ q.num ∷ pos p.den ∷ pos d ∷ pos e ∷ []) ((v0 ⊗ v1 ⊕ v2 ⊗ v3) ⊗ (v4 ⊗ v5)) ((v0 ⊗ v4) ⊗ (v1 ⊗ v5) ⊕ (v2 ⊗ v5) ⊗ (v3 ⊗ v4)) refl
    ∙ ap₂ (λ s t. (s *ℤ (pos q.den *ℤ pos e)) +ℤ (t *ℤ (pos p.den *ℤ pos d))) h.cross k.cross
    ∙ in_wholes (n ∷ pos p.den ∷ pos q.den ∷ pos e ∷ m ∷ pos d ∷ []) ((v0 ⊗ v1) ⊗ (v2 ⊗ v3) ⊕ (v4 ⊗ v2) ⊗ (v1 ⊗ v5)) ((v0 ⊗ v3 ⊕ v4 ⊗ v5) ⊗ (v1 ⊗ v2)) refl)

pub is_mul : {p q : Fraction} {n m : ℤ} {d e : ℕ} → Is p n d → Is q m e → Is (mul p q) (n *ℤ m) (d * e)
unfolding mul
is_mul {p} {q} {n} {m} {d} {e} h k =
    change (reduce_is (p.num *ℤ q.num) (p.den * q.den) (mul-pos p.positive q.positive)) (mul-pos h.above k.above)
    (in_wholes (p.num ∷ q.num ∷ pos d ∷ pos e ∷ []) (v0 ⊗ v1 ⊗ (v2 ⊗ v3)) ((v0 ⊗ v2) ⊗ (v1 ⊗ v3)) refl
    ∙ ap₂ ◌*ℤ◌ h.cross k.cross
    ∙ in_wholes (n ∷ pos p.den ∷ m ∷ pos q.den ∷ []) ((v0 ⊗ v1) ⊗ (v2 ⊗ v3)) (v0 ⊗ v2 ⊗ (v1 ⊗ v3)) refl)

pub is_neg : {p : Fraction} {n : ℤ} {d : ℕ} → Is p n d → Is (neg p) (neg_ℤ n) d
unfolding neg
is_neg {p} {n} {d} h =
    change (reduce_is (neg_ℤ p.num) p.den p.positive) h.above
    (in_wholes (p.num ∷ pos d ∷ []) (minus v0 ⊗ v1) (minus (v0 ⊗ v1)) refl ∙ ap neg_ℤ h.cross ∙ in_wholes (n ∷ pos p.den ∷ []) (minus (v0 ⊗ v1)) (minus v0 ⊗ v1) refl)

-- ---- the laws
pub zero-num : (p : Fraction) → p.num ≡ pos 0 → p ≡ whole (pos 0)
zero-num p e = unique p (whole (pos 0)) (ap (λ t. t *ℤ pos 1) e ∙ sym (RingLaws.zero-mul integer_ring (pos p.den)))

unit_product : (p : Fraction) (z : ℤ) (d : ℕ) → Is p z d → z ≢ pos 0 → mul p (unit_over z d) ≡ whole (pos 1)
unit_product p (pos zero) d h ne = absurd (ne refl)
unit_product p (pos (suc n)) d h ne = same (is_mul h (reduce_is (pos d) (suc n) (zero-lt-suc n))) (is_whole (pos 1)) (in_wholes (pos (suc n) ∷ pos d ∷ []) (v0 ⊗ v1 ⊗ one) (one ⊗ (v1 ⊗ v0)) refl)
unit_product p (negsuc n) d h ne =
    same (is_mul h (reduce_is (neg_ℤ (pos d)) (suc n) (zero-lt-suc n))) (is_whole (pos 1)) (in_wholes (pos (suc n) ∷ pos d ∷ []) (minus v0 ⊗ minus v1 ⊗ one) (one ⊗ (v1 ⊗ v0)) refl)

pub mul-inverse : (p : Fraction) → p ≢ whole (pos 0) → mul p (inverse p) ≡ whole (pos 1)
unfolding inverse
mul-inverse p ne = unit_product p p.num p.den (is_self p) (λ e. ne (zero-num p e))

pub fraction_discrete : Discrete Fraction
fraction_discrete p q = by (ℤ_discrete p.num q.num) (ℕ_discrete p.den q.den)
  where
    by : Dec (p.num ≡ q.num) → Dec (p.den ≡ q.den) → Dec (p ≡ q)
    by (yes e) (yes f) = yes (same_fraction p q e f)
    by (yes e) (no f) = no (λ h. f (ap (λ r. r.den) h))
    by (no e) f = no (λ h. e (ap (λ r. r.num) h))

abbrev pub fraction_ring : Ring
fraction_ring = record {
  Elem = Fraction;
  is_set = hedberg fraction_discrete;
  zero = whole (pos 0);
  one = whole (pos 1);
  neg = neg;
  add = add;
  mul = mul;
  add_assoc = λ p q r. same (is_add (is_add (is_self p) (is_self q)) (is_self r)) (is_add (is_self p) (is_add (is_self q) (is_self r)))
      (in_wholes (p.num ∷ q.num ∷ r.num ∷ pos p.den ∷ pos q.den ∷ pos r.den ∷ [])
      (((v0 ⊗ v4 ⊕ v1 ⊗ v3) ⊗ v5 ⊕ v2 ⊗ (v3 ⊗ v4)) ⊗ (v3 ⊗ (v4 ⊗ v5)))
      ((v0 ⊗ (v4 ⊗ v5) ⊕ (v1 ⊗ v5 ⊕ v2 ⊗ v4) ⊗ v3) ⊗ (v3 ⊗ v4 ⊗ v5)) refl);
  add_comm = λ p q. same (is_add (is_self p) (is_self q)) (is_add (is_self q) (is_self p))
      (in_wholes (p.num ∷ q.num ∷ pos p.den ∷ pos q.den ∷ []) ((v0 ⊗ v3 ⊕ v1 ⊗ v2) ⊗ (v3 ⊗ v2)) ((v1 ⊗ v2 ⊕ v0 ⊗ v3) ⊗ (v2 ⊗ v3)) refl);
  add-zero = λ p. same (is_add (is_self p) (is_whole (pos 0))) (is_self p) (in_wholes (p.num ∷ pos p.den ∷ []) ((v0 ⊗ one ⊕ nil ⊗ v1) ⊗ v1) (v0 ⊗ (v1 ⊗ one)) refl);
  add-neg = λ p. same (is_add (is_self p) (is_neg (is_self p))) (is_whole (pos 0)) (in_wholes (p.num ∷ pos p.den ∷ []) ((v0 ⊗ v1 ⊕ minus v0 ⊗ v1) ⊗ one) (nil ⊗ (v1 ⊗ v1)) refl);
  mul_assoc = λ p q r. same (is_mul (is_mul (is_self p) (is_self q)) (is_self r)) (is_mul (is_self p) (is_mul (is_self q) (is_self r)))
      (in_wholes (p.num ∷ q.num ∷ r.num ∷ pos p.den ∷ pos q.den ∷ pos r.den ∷ []) (v0 ⊗ v1 ⊗ v2 ⊗ (v3 ⊗ (v4 ⊗ v5))) (v0 ⊗ (v1 ⊗ v2) ⊗ (v3 ⊗ v4 ⊗ v5)) refl);
  one-mul = λ p. same (is_mul (is_whole (pos 1)) (is_self p)) (is_self p) (in_wholes (p.num ∷ pos p.den ∷ []) (one ⊗ v0 ⊗ v1) (v0 ⊗ (one ⊗ v1)) refl);
  mul-one = λ p. same (is_mul (is_self p) (is_whole (pos 1))) (is_self p) (in_wholes (p.num ∷ pos p.den ∷ []) (v0 ⊗ one ⊗ v1) (v0 ⊗ (v1 ⊗ one)) refl);
  mul-add = λ p q r. same (is_mul (is_self p) (is_add (is_self q) (is_self r))) (is_add (is_mul (is_self p) (is_self q)) (is_mul (is_self p) (is_self r)))
      (in_wholes (p.num ∷ q.num ∷ r.num ∷ pos p.den ∷ pos q.den ∷ pos r.den ∷ [])
      (v0 ⊗ (v1 ⊗ v5 ⊕ v2 ⊗ v4) ⊗ (v3 ⊗ v4 ⊗ (v3 ⊗ v5)))
      ((v0 ⊗ v1 ⊗ (v3 ⊗ v5) ⊕ v0 ⊗ v2 ⊗ (v3 ⊗ v4)) ⊗ (v3 ⊗ (v4 ⊗ v5))) refl);
  add-mul = λ p q r. same (is_mul (is_add (is_self p) (is_self q)) (is_self r)) (is_add (is_mul (is_self p) (is_self r)) (is_mul (is_self q) (is_self r)))
      (in_wholes (p.num ∷ q.num ∷ r.num ∷ pos p.den ∷ pos q.den ∷ pos r.den ∷ [])
      ((v0 ⊗ v4 ⊕ v1 ⊗ v3) ⊗ v2 ⊗ (v3 ⊗ v5 ⊗ (v4 ⊗ v5)))
      ((v0 ⊗ v2 ⊗ (v4 ⊗ v5) ⊕ v1 ⊗ v2 ⊗ (v3 ⊗ v5)) ⊗ (v3 ⊗ v4 ⊗ v5)) refl);
}

-- ---- whole numbers as fractions
pub whole-add : (a b : ℤ) → whole (a +ℤ b) ≡ add (whole a) (whole b)
whole-add a b = same (is_whole (a +ℤ b)) (is_add (is_whole a) (is_whole b)) (in_wholes (a ∷ b ∷ []) ((v0 ⊕ v1) ⊗ (one ⊗ one)) ((v0 ⊗ one ⊕ v1 ⊗ one) ⊗ one) refl)

pub whole-mul : (a b : ℤ) → whole (a *ℤ b) ≡ mul (whole a) (whole b)
whole-mul a b = same (is_whole (a *ℤ b)) (is_mul (is_whole a) (is_whole b)) (in_wholes (a ∷ b ∷ []) (v0 ⊗ v1 ⊗ (one ⊗ one)) (v0 ⊗ v1 ⊗ one) refl)

pub whole-neg : (a : ℤ) → whole (neg_ℤ a) ≡ neg (whole a)
whole-neg a = same (is_whole (neg_ℤ a)) (is_neg (is_whole a)) refl

pub of_nat-is_whole : (n : ℕ) → of_nat fraction_ring n ≡ whole (pos n)
of_nat-is_whole zero = refl
of_nat-is_whole (suc n) = ap (λ t. add (whole (pos 1)) t) (of_nat-is_whole n) ∙ sym (whole-add (pos 1) (pos n)) ∙ ap (λ k. whole (pos k)) (omega arith)

pub of_int-is_whole : (z : ℤ) → of_int fraction_ring z ≡ whole z
of_int-is_whole (pos n) = of_nat-is_whole n
of_int-is_whole (negsuc n) = ap neg (of_nat-is_whole (suc n)) ∙ sym (whole-neg (pos (suc n)))

pub whole_injective : (a b : ℤ) → whole a ≡ whole b → a ≡ b
whole_injective a b e = ap (λ r. r.num) e

pub one_apart : whole (pos 1) ≢ whole (pos 0)
one_apart e = let h : pos 1 ≡ pos 0 = whole_injective (pos 1) (pos 0) e in cc

pub of_nat-ne-zero : (n : ℕ) → of_nat fraction_ring (suc n) ≢ whole (pos 0)
of_nat-ne-zero n e = let h : pos (suc n) ≡ pos 0 = whole_injective (pos (suc n)) (pos 0) (sym (of_nat-is_whole (suc n)) ∙ e) in cc

pub mul_comm : (p q : Fraction) → mul p q ≡ mul q p
mul_comm p q = same (is_mul (is_self p) (is_self q)) (is_mul (is_self q) (is_self p)) (in_wholes (p.num ∷ q.num ∷ pos p.den ∷ pos q.den ∷ []) (v0 ⊗ v1 ⊗ (v3 ⊗ v2)) (v1 ⊗ v0 ⊗ (v2 ⊗ v3)) refl)

pub mul_apart : (p q : Fraction) → p ≢ whole (pos 0) → q ≢ whole (pos 0) → mul p q ≢ whole (pos 0)
mul_apart = FieldLaws.mul_apart fraction_ring mul_comm inverse mul-inverse
