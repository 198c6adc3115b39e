-- The whole numbers are a ring and a domain.
--     by_sign                       a claim that holds of naturals and passes to opposites holds of all whole numbers
--     integer_ring, integers        the ring and the domain
--     times_assoc, times_plus, ..   laws, named by their left sides
use Rattle.std.proofs.Common.{◌≡◌, ◌≢◌, ℕ, zero, suc, ◌*◌, refl, sym, ap, ◌∙◌, arith}
use Rattle.std.specs.Prelude.{ℤ, pos, negsuc, ◌+ℤ◌, ◌*ℤ◌, neg_ℤ}
use Rattle.std.proofs.Math.IntN.{+ℤ_assoc, +ℤ_comm, +ℤ_idr, +ℤ_invr, *ℤ_comm, *ℤ-zero, zero-*ℤ, *ℤ-negsuc, pos-*ℤ-pos, suc_ℤ-*ℤ, neg_ℤ-neg_ℤ, neg_ℤ-+ℤ, ℤ_discrete}
use native.Mathlib.Nat
use mathlib.Core.HLevel.{hedberg}
use Rattle.ore_algebra.specs.Ring.{Ring}
use Rattle.ore_algebra.specs.Domain.{Domain}

by_sign : (P : ℤ → Type 0) → ((n : ℕ) → P (pos n)) → ((z : ℤ) → P z → P (neg_ℤ z)) → (z : ℤ) → P z
by_sign P f g (pos n) = f n
by_sign P f g (negsuc n) = g (pos (suc n)) (f (suc n))

times_neg : (x y : ℤ) → x *ℤ neg_ℤ y ≡ neg_ℤ (x *ℤ y)
times_neg x (pos zero) = *ℤ-zero x ∙ sym (ap neg_ℤ (*ℤ-zero x))
times_neg x (pos (suc n)) = *ℤ-negsuc x n
times_neg x (negsuc n) = sym (neg_ℤ-neg_ℤ (x *ℤ pos (suc n))) ∙ ap neg_ℤ (sym (*ℤ-negsuc x n))

neg_times : (x y : ℤ) → neg_ℤ x *ℤ y ≡ neg_ℤ (x *ℤ y)
neg_times x y = *ℤ_comm (neg_ℤ x) y ∙ times_neg y x ∙ ap neg_ℤ (*ℤ_comm y x)

pub times_assoc : (x y z : ℤ) → (x *ℤ y) *ℤ z ≡ x *ℤ (y *ℤ z)
times_assoc x y z =
    by_sign (λ x. (x *ℤ y) *ℤ z ≡ x *ℤ (y *ℤ z))
    (λ a. by_sign (λ y. (pos a *ℤ y) *ℤ z ≡ pos a *ℤ (y *ℤ z))
    (λ b. by_sign (λ z. (pos a *ℤ pos b) *ℤ z ≡ pos a *ℤ (pos b *ℤ z))
    (λ c. ap (λ w. w *ℤ pos c) (pos-*ℤ-pos a b) ∙ pos-*ℤ-pos (a * b) c ∙ ap pos (Nat.mul_assoc a b c) ∙ sym (ap (λ w. pos a *ℤ w) (pos-*ℤ-pos b c) ∙ pos-*ℤ-pos a (b * c)))
    (λ z e. times_neg (pos a *ℤ pos b) z ∙ ap neg_ℤ e ∙ sym (ap (λ w. pos a *ℤ w) (times_neg (pos b) z) ∙ times_neg (pos a) (pos b *ℤ z))) z)
    (λ y e. ap (λ w. w *ℤ z) (times_neg (pos a) y) ∙ neg_times (pos a *ℤ y) z ∙ ap neg_ℤ e ∙ sym (ap (λ w. pos a *ℤ w) (neg_times y z) ∙ times_neg (pos a) (y *ℤ z))) y)
    (λ x e. ap (λ w. w *ℤ z) (neg_times x y) ∙ neg_times (x *ℤ y) z ∙ ap neg_ℤ e ∙ sym (neg_times x (y *ℤ z))) x

swap_sums : (a b c d : ℤ) → (a +ℤ b) +ℤ (c +ℤ d) ≡ (a +ℤ c) +ℤ (b +ℤ d)
swap_sums a b c d = +ℤ_assoc a b (c +ℤ d) ∙ ap (λ w. a +ℤ w) (sym (+ℤ_assoc b c d) ∙ ap (λ w. w +ℤ d) (+ℤ_comm b c) ∙ +ℤ_assoc c b d) ∙ sym (+ℤ_assoc a c (b +ℤ d))

times_plus_pos : (n : ℕ) (y z : ℤ) → pos n *ℤ (y +ℤ z) ≡ (pos n *ℤ y) +ℤ (pos n *ℤ z)
times_plus_pos zero y z = zero-*ℤ (y +ℤ z) ∙ sym ((λ i. zero-*ℤ y i +ℤ zero-*ℤ z i) ∙ +ℤ_idr (pos zero))
times_plus_pos (suc n) y z = suc_ℤ-*ℤ (pos n) (y +ℤ z) ∙ ap (λ w. w +ℤ (y +ℤ z)) (times_plus_pos n y z) ∙ swap_sums (pos n *ℤ y) (pos n *ℤ z) y z ∙ sym (λ i. suc_ℤ-*ℤ (pos n) y i +ℤ suc_ℤ-*ℤ (pos n) z i)

pub times_plus : (x y z : ℤ) → x *ℤ (y +ℤ z) ≡ (x *ℤ y) +ℤ (x *ℤ z)
times_plus x y z = by_sign (λ x. x *ℤ (y +ℤ z) ≡ (x *ℤ y) +ℤ (x *ℤ z)) (λ n. times_plus_pos n y z)
    (λ x e. neg_times x (y +ℤ z) ∙ ap neg_ℤ e ∙ neg_ℤ-+ℤ (x *ℤ y) (x *ℤ z) ∙ sym (λ i. neg_times x y i +ℤ neg_times x z i)) x

pub times_one : (x : ℤ) → x *ℤ pos 1 ≡ x
times_one x = by_sign (λ x. x *ℤ pos 1 ≡ x) (λ n. pos-*ℤ-pos n 1 ∙ ap pos (let e : n * 1 ≡ n = omega arith in e)) (λ x e. neg_times x (pos 1) ∙ ap neg_ℤ e) x

pub pos_same : (a b : ℕ) → pos a ≡ pos b → a ≡ b
pos_same a b e = cc

neg_none : (x : ℤ) → neg_ℤ x ≡ pos 0 → x ≡ pos 0
neg_none x e = sym (neg_ℤ-neg_ℤ x) ∙ ap neg_ℤ e

pos_apart : (a b : ℕ) → pos (suc a) *ℤ pos (suc b) ≢ pos 0
pos_apart a b e = let f = pos_same (suc a * suc b) 0 (sym (pos-*ℤ-pos (suc a) (suc b)) ∙ e) in absurd (omega arith)

pub times_apart : (x y : ℤ) → x ≢ pos 0 → y ≢ pos 0 → x *ℤ y ≢ pos 0
times_apart (pos zero) y n m e = n refl
times_apart (negsuc a) (pos zero) n m e = m refl
times_apart (pos (suc a)) (pos zero) n m e = m refl
times_apart (pos (suc a)) (pos (suc b)) n m e = pos_apart a b e
times_apart (pos (suc a)) (negsuc b) n m e = pos_apart a b (neg_none _ (sym (times_neg (pos (suc a)) (pos (suc b))) ∙ e))
times_apart (negsuc a) (pos (suc b)) n m e = pos_apart a b (neg_none _ (sym (neg_times (pos (suc a)) (pos (suc b))) ∙ e))
times_apart (negsuc a) (negsuc b) n m e = pos_apart a b (neg_none _ (neg_none _ (sym (neg_times (pos (suc a)) (neg_ℤ (pos (suc b))) ∙ ap neg_ℤ (times_neg (pos (suc a)) (pos (suc b)))) ∙ e)))

pub plus_times : (x y z : ℤ) → (x +ℤ y) *ℤ z ≡ (x *ℤ z) +ℤ (y *ℤ z)
plus_times x y z = *ℤ_comm (x +ℤ y) z ∙ times_plus z x y ∙ (λ i. *ℤ_comm z x i +ℤ *ℤ_comm z y i)

pub one_times : (x : ℤ) → pos 1 *ℤ x ≡ x
one_times x = *ℤ_comm (pos 1) x ∙ times_one x

pub one_apart : pos 1 ≢ pos 0
one_apart e = absurd (let f = pos_same 1 0 e in omega arith)

abbrev pub integer_ring : Ring
integer_ring = record {
  Elem = ℤ;
  is_set = hedberg ℤ_discrete;
  zero = pos 0;
  one = pos 1;
  neg = neg_ℤ;
  add = ◌+ℤ◌;
  mul = ◌*ℤ◌;
  add_assoc = +ℤ_assoc;
  add_comm = +ℤ_comm;
  add-zero = +ℤ_idr;
  add-neg = +ℤ_invr;
  mul_assoc = times_assoc;
  one-mul = one_times;
  mul-one = times_one;
  mul-add = times_plus;
  add-mul = plus_times;
}

abbrev pub integers : Domain
integers = record {
  ring = integer_ring;
  discrete = ℤ_discrete;
  times_comm = *ℤ_comm;
  one_apart = one_apart;
  times_apart = times_apart;
}
