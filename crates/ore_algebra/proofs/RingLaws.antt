-- What follows from the laws of a ring, whose product need not commute.
--     zero-mul, mul-neg, ..        laws, named by their left sides; those of the sum alone are in GroupLaws
--     of_nat, of_int               whole numbers in the ring: sums, opposites and products are kept, and they
--                                  commute with every element
--     gap m n                      m - n in the ring
--     ring_laws                    the ring's laws as one statement
use Rattle.std.proofs.Common.{◌≡◌, ℕ, zero, suc, ◌+◌, ◌*◌, ℤ, pos, negsuc, ◌+ℤ◌, ◌*ℤ◌, neg_ℤ, arith, refl, sym, ap, ap₂, ◌∙◌, suc-add, suc-mul}
use Rattle.std.proofs.Math.Nat
use borrow.Author.Differences.{up, down, sum_is_lem, product_is}
use Rattle.ore_algebra.specs.Ring.{Ring, of_nat, of_int}
use Rattle.ore_algebra.specs.Laws.{IsRing}
use Rattle.ore_algebra.proofs.GroupLaws.{Group, ring_group}
use Rattle.ore_algebra.proofs.GroupLaws

module _ (R : Ring) where
  open R use {add as ◌⊕◌, mul as ◌⊗◌, neg as -◌, zero as 𝟘, one as 𝟙, Elem as A}

  infixl 6 ◌⊕◌
  infixl 7 ◌⊗◌
  infixl 20 -◌
  abbrev sums : Group
  sums = ring_group R

  pub zero-add : (a : A) → 𝟘 ⊕ a ≡ a
  zero-add = GroupLaws.zero-add sums

  pub neg-add : (a : A) → (- a) ⊕ a ≡ 𝟘
  neg-add = GroupLaws.neg-add sums

  pub add_left_comm : (a b c : A) → a ⊕ (b ⊕ c) ≡ b ⊕ (a ⊕ c)
  add_left_comm = GroupLaws.add_left_comm sums

  pub add_middle : (a b c d : A) → (a ⊕ b) ⊕ (c ⊕ d) ≡ (a ⊕ c) ⊕ (b ⊕ d)
  add_middle = GroupLaws.add_middle sums

  pub add_cancel : (a b c : A) → a ⊕ c ≡ b ⊕ c → a ≡ b
  add_cancel = GroupLaws.add_cancel sums

  pub neg_unique : (a b : A) → a ⊕ b ≡ 𝟘 → b ≡ - a
  neg_unique = GroupLaws.neg_unique sums

  pub neg-zero : - 𝟘 ≡ 𝟘
  neg-zero = GroupLaws.neg-zero sums

  pub neg_neg : (a : A) → - (- a) ≡ a
  neg_neg = GroupLaws.neg_neg sums

  pub neg-add_distr : (a b : A) → - (a ⊕ b) ≡ (- a) ⊕ (- b)
  neg-add_distr = GroupLaws.neg-add_distr sums

  pub zero-mul : (a : A) → 𝟘 ⊗ a ≡ 𝟘
  zero-mul a = add_cancel (𝟘 ⊗ a) 𝟘 (𝟘 ⊗ a) (sym (R.add-mul 𝟘 𝟘 a) ∙ ap (λ x. x ⊗ a) (R.add-zero 𝟘) ∙ sym (zero-add (𝟘 ⊗ a)))

  pub mul-zero : (a : A) → a ⊗ 𝟘 ≡ 𝟘
  mul-zero a = add_cancel (a ⊗ 𝟘) 𝟘 (a ⊗ 𝟘) (sym (R.mul-add a 𝟘 𝟘) ∙ ap (λ x. a ⊗ x) (R.add-zero 𝟘) ∙ sym (zero-add (a ⊗ 𝟘)))

  pub neg-mul : (a b : A) → (- a) ⊗ b ≡ - (a ⊗ b)
  neg-mul a b = neg_unique (a ⊗ b) ((- a) ⊗ b) (sym (R.add-mul a (- a) b) ∙ ap (λ x. x ⊗ b) (R.add-neg a) ∙ zero-mul b)

  pub mul-neg : (a b : A) → a ⊗ (- b) ≡ - (a ⊗ b)
  mul-neg a b = neg_unique (a ⊗ b) (a ⊗ (- b)) (sym (R.mul-add a b (- b)) ∙ ap (λ x. a ⊗ x) (R.add-neg b) ∙ mul-zero a)

  -- ---- whole numbers
  pub of_nat-add : (m n : ℕ) → of_nat R (m + n) ≡ of_nat R m ⊕ of_nat R n
  of_nat-add zero n = rw Nat.zero-add (sym (zero-add (of_nat R n)))
  of_nat-add (suc m) n = rw suc-add (ap (λ x. 𝟙 ⊕ x) (of_nat-add m n) ∙ sym (R.add_assoc 𝟙 (of_nat R m) (of_nat R n)))

  pub of_nat-mul : (m n : ℕ) → of_nat R (m * n) ≡ of_nat R m ⊗ of_nat R n
  of_nat-mul zero n = rw Nat.zero-mul (sym (zero-mul (of_nat R n)))
  of_nat-mul (suc m) n = rw suc-mul (of_nat-add (m * n) n ∙ ap₂ ◌⊕◌ (of_nat-mul m n) (sym (R.one-mul (of_nat R n))) ∙ R.add_comm _ _ ∙ sym (R.add-mul 𝟙 (of_nat R m) (of_nat R n)))

  pub of_nat-central : (n : ℕ) (a : A) → of_nat R n ⊗ a ≡ a ⊗ of_nat R n
  of_nat-central zero a = zero-mul a ∙ sym (mul-zero a)
  of_nat-central (suc n) a = R.add-mul 𝟙 (of_nat R n) a ∙ ap₂ ◌⊕◌ (R.one-mul a ∙ sym (R.mul-one a)) (of_nat-central n a) ∙ sym (R.mul-add a 𝟙 (of_nat R n))

  pub of_int-central : (z : ℤ) (a : A) → of_int R z ⊗ a ≡ a ⊗ of_int R z
  of_int-central (pos n) a = of_nat-central n a
  of_int-central (negsuc n) a = neg-mul (of_nat R (suc n)) a ∙ ap R.neg (of_nat-central (suc n) a) ∙ sym (mul-neg a (of_nat R (suc n)))

  -- m - n
  gap : ℕ → ℕ → A
  gap m n = of_nat R m ⊕ (- (of_nat R n))

  of_int_is : (z : ℤ) → of_int R z ≡ gap (up z) (down z)
  unfolding gap
  of_int_is (pos n) = sym (ap (λ x. of_nat R n ⊕ x) neg-zero ∙ R.add-zero (of_nat R n))
  of_int_is (negsuc n) = sym (zero-add (- (of_nat R (suc n))))

  gap-add : (m n : ℕ) → gap m n ⊕ of_nat R n ≡ of_nat R m
  unfolding gap
  gap-add m n = R.add_assoc (of_nat R m) (- (of_nat R n)) (of_nat R n) ∙ ap (λ x. of_nat R m ⊕ x) (neg-add (of_nat R n)) ∙ R.add-zero (of_nat R m)

  -- equal gaps
  gap_same : (m n k l : ℕ) → m + l ≡ k + n → gap m n ≡ gap k l
  gap_same m n k l e =
      add_cancel (gap m n) (gap k l) (of_nat R n ⊕ of_nat R l)
      (sym (R.add_assoc (gap m n) (of_nat R n) (of_nat R l)) ∙ ap (λ x. x ⊕ of_nat R l) (gap-add m n) ∙ sym (of_nat-add m l) ∙ ap (of_nat R) e ∙ of_nat-add k n
      ∙ ap (λ x. x ⊕ of_nat R n) (sym (gap-add k l)) ∙ R.add_assoc (gap k l) (of_nat R l) (of_nat R n) ∙ ap (λ x. gap k l ⊕ x) (R.add_comm (of_nat R l) (of_nat R n)))

  gap_sum : (m n k l : ℕ) → gap m n ⊕ gap k l ≡ gap (m + k) (n + l)
  unfolding gap
  gap_sum m n k l =
      add_middle (of_nat R m) (- (of_nat R n)) (of_nat R k) (- (of_nat R l))
      ∙ ap₂ ◌⊕◌ (sym (of_nat-add m k)) (sym (neg-add_distr (of_nat R n) (of_nat R l)) ∙ ap R.neg (sym (of_nat-add n l)))

  -- a product of gaps
  gap_product : (m n k l : ℕ) → gap m n ⊗ gap k l ≡ gap (m * k + n * l) (m * l + n * k)
  unfolding gap
  gap_product m n k l =
      R.add-mul (of_nat R m) (- (of_nat R n)) (gap k l)
      ∙ ap₂ ◌⊕◌
      (R.mul-add (of_nat R m) (of_nat R k) (- (of_nat R l)) ∙ ap₂ ◌⊕◌ (sym (of_nat-mul m k)) (mul-neg (of_nat R m) (of_nat R l) ∙ ap R.neg (sym (of_nat-mul m l))))
      (R.mul-add (- (of_nat R n)) (of_nat R k) (- (of_nat R l)) ∙ R.add_comm _ _
      ∙ ap₂ ◌⊕◌ (neg-mul (of_nat R n) (- (of_nat R l)) ∙ ap R.neg (mul-neg (of_nat R n) (of_nat R l)) ∙ neg_neg _ ∙ sym (of_nat-mul n l)) (neg-mul (of_nat R n) (of_nat R k) ∙ ap R.neg (sym (of_nat-mul n k))))
      ∙ gap_sum (m * k) (m * l) (n * l) (n * k)

  pub of_int-add : (a b : ℤ) → of_int R (a +ℤ b) ≡ of_int R a ⊕ of_int R b
  of_int-add a b =
      of_int_is (a +ℤ b) ∙ gap_same (up (a +ℤ b)) (down (a +ℤ b)) (up a + up b) (down a + down b) (omega (arith, sum_is_lem a b)) ∙ sym (gap_sum (up a) (down a) (up b) (down b))
      ∙ ap₂ ◌⊕◌ (sym (of_int_is a)) (sym (of_int_is b))

  pub of_int-mul : (a b : ℤ) → of_int R (a *ℤ b) ≡ of_int R a ⊗ of_int R b
  of_int-mul a b =
      of_int_is (a *ℤ b) ∙ ap₂ gap (product_is a b).0 (product_is a b).1 ∙ sym (gap_product (up a) (down a) (up b) (down b))
      ∙ ap₂ ◌⊗◌ (sym (of_int_is a)) (sym (of_int_is b))

  pub of_int-neg : (a : ℤ) → of_int R (neg_ℤ a) ≡ - (of_int R a)
  of_int-neg (pos zero) = sym neg-zero
  of_int-neg (pos (suc n)) = refl
  of_int-neg (negsuc n) = sym (neg_neg (of_nat R (suc n)))

  -- the laws as a statement of its own
  pub ring_laws : IsRing A 𝟘 𝟙 R.neg R.add R.mul
  ring_laws = record {
    add_assoc = R.add_assoc;
    add_comm = R.add_comm;
    add-zero = R.add-zero;
    add-neg = R.add-neg;
    mul_assoc = R.mul_assoc;
    one-mul = R.one-mul;
    mul-one = R.mul-one;
    mul-add = R.mul-add;
    add-mul = R.add-mul;
  }
