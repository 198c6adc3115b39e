-- The normal form of an expression has its value, so expressions with one normal form have one value.
--     value, sum                               the values of an expression and of a normal form, which by normal_is are equal;
--                                              the variables' values are a list
--     in_ring, in_commutative, in_algebra      expressions with one normal form are equal: in any ring, in a commutative
--                                              ring, and where the first k variables commute with every element
--     Shape, shapes                            an expression whose value is a, and the rules by which `search shapes` finds it
--     same_shape, same_commutative_shape,      a and b are equal where their expressions have one normal form
--     same_algebra_shape
--     Given, given                             a known equation, as two expressions
--     same_given, same_commutative_given       a and b are equal where a - b is a sum of products with differences of
--                                              sides of known equations
use Rattle.std.proofs.Common.{◌≡◌, ℕ, zero, suc, ℤ, pos, negsuc, ◌+ℤ◌, ◌*ℤ◌, refl, sym, ap, ap₂, subst, ◌∙◌, Bool, true, false, eqb, ltb, T, eqb→eq, ltb→lt, lt-ltb, arith, ◌<◌, not, ◌||◌, List, [], ◌∷◌}
use Rattle.ore_algebra.specs.Ring.{Ring, of_int}
use Rattle.ore_algebra.proofs.RingLaws
use Rattle.ore_algebra.proofs.Normal.{Expr, var, int, nil, one, minus, ◌⊕◌, ◌⊖◌, ◌⊗◌, Poly, none, term, Order, less, same, more, by_heads, order, keep, by_length, letters, degree_order, choose, merge_one, plus, negate, scale, times, normal, place_var, put_var, join, as_is, sorted, central}

-- the variable number i of a list
abbrev pub at : {A : Type 0} → A → List A → ℕ → A
at d [] i = d
at d (x ∷ xs) zero = x
at d (x ∷ xs) (suc i) = at d xs i

abbrev pub value : (R : Ring) → List R.Elem → Expr → R.Elem
value R xs (var i) = at R.zero xs i
value R xs (int z) = of_int R z
value R xs nil = R.zero
value R xs one = R.one
value R xs (minus e) = R.neg (value R xs e)
value R xs (e ⊕ f) = R.add (value R xs e) (value R xs f)
value R xs (e ⊖ f) = R.add (value R xs e) (R.neg (value R xs f))
value R xs (e ⊗ f) = R.mul (value R xs e) (value R xs f)

abbrev pub word : (R : Ring) → List R.Elem → List ℕ → R.Elem
word R xs [] = R.one
word R xs (i ∷ u) = R.mul (at R.zero xs i) (word R xs u)

abbrev pub sum : (R : Ring) → List R.Elem → Poly → R.Elem
sum R xs none = R.zero
sum R xs (term c u p) = R.add (R.mul (of_int R c) (word R xs u)) (sum R xs p)

by_heads_same : (b l : Bool) (o : Order) → by_heads b l o ≡ same → (b ≡ true) × (o ≡ same)
by_heads_same true l o e = (refl, e)
by_heads_same false true o e = absurd (cc)
by_heads_same false false o e = absurd (cc)

order_same : (u v : List ℕ) → order u v ≡ same → u ≡ v
order_same [] [] e = refl
order_same [] (y ∷ v) e = absurd (cc)
order_same (x ∷ u) [] e = absurd (cc)
order_same (x ∷ u) (y ∷ v) e =
    let h : (eqb x y ≡ true) × (order u v ≡ same) = by_heads_same (eqb x y) (ltb x y) (order u v) e in
    ap₂ ◌∷◌ (eqb→eq x y (subst T (sym h.0) tt)) (order_same u v h.1)

by_length_same : (a b : Bool) (o : Order) → by_length a b o ≡ same → o ≡ same
by_length_same true b o e = absurd (cc e)
by_length_same false true o e = absurd (cc e)
by_length_same false false o e = e

degree_order_same : (u v : List ℕ) → degree_order u v ≡ same → u ≡ v
degree_order_same u v e = order_same u v (by_length_same (ltb (letters u) (letters v)) (ltb (letters v) (letters u)) (order u v) e)

module _ (R : Ring) (xs : List R.Elem) where
  open R use {add as ◌+ᴿ◌, mul as ◌*ᴿ◌, neg as -◌, zero as 𝟘, one as 𝟙, Elem as A}

  infixl 6 ◌+ᴿ◌
  infixl 7 ◌*ᴿ◌
  infixl 20 -◌
  -- one term's value
  abbrev mono : ℤ → List ℕ → A
  mono c u = of_int R c *ᴿ word R xs u

  mono-zero : (u : List ℕ) → mono (pos zero) u ≡ 𝟘
  mono-zero u = RingLaws.zero-mul R (word R xs u)

  keep_is : (c : ℤ) (u : List ℕ) (p : Poly) → sum R xs (keep c u p) ≡ mono c u +ᴿ sum R xs p
  keep_is (pos zero) u p = sym (ap (λ x. x +ᴿ sum R xs p) (mono-zero u) ∙ RingLaws.zero-add R (sum R xs p))
  keep_is (pos (suc n)) u p = refl
  keep_is (negsuc n) u p = refl

  choose_is : (o : Order) (c : ℤ) (u : List ℕ) (d : ℤ) (v : List ℕ) (a b e : Unit {0} → Poly) (s t : A) → (o ≡ same → u ≡ v)
      → sum R xs (a tt) ≡ s +ᴿ (mono d v +ᴿ t) → sum R xs (b tt) ≡ s +ᴿ t → sum R xs (e tt) ≡ (mono c u +ᴿ s) +ᴿ t
      → sum R xs (choose o c u d v a b e) ≡ (mono c u +ᴿ s) +ᴿ (mono d v +ᴿ t)
  choose_is less c u d v a b e s t w p q r = ap (λ x. mono c u +ᴿ x) p ∙ sym (R.add_assoc (mono c u) s (mono d v +ᴿ t))
  choose_is same c u d v a b e s t w p q r =
      keep_is (c +ℤ d) v (b tt)
      ∙ ap₂ ◌+ᴿ◌ (ap (λ x. x *ᴿ word R xs v) (RingLaws.of_int-add R c d) ∙ R.add-mul (of_int R c) (of_int R d) (word R xs v) ∙ ap (λ z. mono c z +ᴿ mono d v) (sym (w refl))) q
      ∙ RingLaws.add_middle R (mono c u) (mono d v) s t
  choose_is more c u d v a b e s t w p q r = ap (λ x. mono d v +ᴿ x) r ∙ RingLaws.add_left_comm R (mono d v) (mono c u +ᴿ s) t

  merge_one_is : (c : ℤ) (u : List ℕ) (rest : Poly → Poly) (s : A) → ((q : Poly) → sum R xs (rest q) ≡ s +ᴿ sum R xs q) → (q : Poly) → sum R xs (merge_one c u rest q) ≡ (mono c u +ᴿ s) +ᴿ sum R xs q
  merge_one_is c u rest s h none = ap (λ x. mono c u +ᴿ x) (h none) ∙ sym (R.add_assoc (mono c u) s 𝟘)
  merge_one_is c u rest s h (term d v q) =
      choose_is (degree_order u v) c u d v (λ w. rest (term d v q)) (λ w. rest q) (λ w. merge_one c u rest q) s (sum R xs q) (degree_order_same u v) (h (term d v q)) (h q) (merge_one_is c u rest s h q)

  pub plus_is : (p q : Poly) → sum R xs (plus p q) ≡ sum R xs p +ᴿ sum R xs q
  plus_is none q = sym (RingLaws.zero-add R (sum R xs q))
  plus_is (term c u p) q = merge_one_is c u (plus p) (sum R xs p) (plus_is p) q

  pub negate_is : (p : Poly) → sum R xs (negate p) ≡ - (sum R xs p)
  negate_is none = sym (RingLaws.neg-zero R)
  negate_is (term c u p) =
      ap₂ ◌+ᴿ◌ (ap (λ x. x *ᴿ word R xs u) (RingLaws.of_int-neg R c) ∙ RingLaws.neg-mul R (of_int R c) (word R xs u)) (negate_is p)
      ∙ sym (RingLaws.neg-add_distr R (mono c u) (sum R xs p))

  -- where x does not stay in front of y, the two commute
  module _ (stays : ℕ → ℕ → Bool) (swap : (x y : ℕ) → stays x y ≡ false → at 𝟘 xs x *ᴿ at 𝟘 xs y ≡ at 𝟘 xs y *ᴿ at 𝟘 xs x) where
    place_var_is : (b : Bool) (i k : ℕ) (v w : List ℕ) → (b ≡ false → at 𝟘 xs i *ᴿ at 𝟘 xs k ≡ at 𝟘 xs k *ᴿ at 𝟘 xs i) → word R xs w ≡ at 𝟘 xs i *ᴿ word R xs v → word R xs (place_var b i k v w) ≡ at 𝟘 xs i *ᴿ (at 𝟘 xs k *ᴿ word R xs v)
    place_var_is true i k v w s e = refl
    place_var_is false i k v w s e =
        ap (λ x. at 𝟘 xs k *ᴿ x) e ∙ sym (R.mul_assoc (at 𝟘 xs k) (at 𝟘 xs i) (word R xs v)) ∙ ap (λ x. x *ᴿ word R xs v) (sym (s refl)) ∙ R.mul_assoc (at 𝟘 xs i) (at 𝟘 xs k) (word R xs v)

    put_var_is : (i : ℕ) (v : List ℕ) → word R xs (put_var stays i v) ≡ at 𝟘 xs i *ᴿ word R xs v
    put_var_is i [] = refl
    put_var_is i (k ∷ v) = place_var_is (stays i k) i k v (put_var stays i v) (swap i k) (put_var_is i v)

    join_is : (u v : List ℕ) → word R xs (join stays u v) ≡ word R xs u *ᴿ word R xs v
    join_is [] v = sym (R.one-mul (word R xs v))
    join_is (i ∷ u) v = put_var_is i (join stays u v) ∙ ap (λ x. at 𝟘 xs i *ᴿ x) (join_is u v) ∙ sym (R.mul_assoc (at 𝟘 xs i) (word R xs u) (word R xs v))

    mono-mul : (c : ℤ) (u : List ℕ) (d : ℤ) (v : List ℕ) → mono (c *ℤ d) (join stays u v) ≡ mono c u *ᴿ mono d v
    mono-mul c u d v =
        ap₂ ◌*ᴿ◌ (RingLaws.of_int-mul R c d) (join_is u v)
        ∙ R.mul_assoc (of_int R c) (of_int R d) (word R xs u *ᴿ word R xs v)
        ∙ ap (λ x. of_int R c *ᴿ x) (sym (R.mul_assoc (of_int R d) (word R xs u) (word R xs v)) ∙ ap (λ x. x *ᴿ word R xs v) (RingLaws.of_int-central R d (word R xs u)) ∙ R.mul_assoc (word R xs u) (of_int R d) (word R xs v))
        ∙ sym (R.mul_assoc (of_int R c) (word R xs u) (mono d v))

    scale_is : (c : ℤ) (u : List ℕ) (p : Poly) → sum R xs (scale stays c u p) ≡ mono c u *ᴿ sum R xs p
    scale_is c u none = sym (RingLaws.mul-zero R (mono c u))
    scale_is c u (term d v p) =
        merge_one_is (c *ℤ d) (join stays u v) (λ q. q) 𝟘 (λ q. sym (RingLaws.zero-add R (sum R xs q))) (scale stays c u p)
        ∙ ap₂ ◌+ᴿ◌ (R.add-zero (mono (c *ℤ d) (join stays u v)) ∙ mono-mul c u d v) (scale_is c u p)
        ∙ sym (R.mul-add (mono c u) (mono d v) (sum R xs p))

    pub times_is : (p q : Poly) → sum R xs (times stays p q) ≡ sum R xs p *ᴿ sum R xs q
    times_is none q = sym (RingLaws.zero-mul R (sum R xs q))
    times_is (term c u p) q =
        plus_is (scale stays c u q) (times stays p q)
        ∙ ap₂ ◌+ᴿ◌ (scale_is c u q) (times_is p q)
        ∙ sym (R.add-mul (mono c u) (sum R xs p) (sum R xs q))

    one_is : of_int R (pos 1) ≡ 𝟙
    one_is = R.add-zero 𝟙

    pub normal_is : (e : Expr) → sum R xs (normal stays e) ≡ value R xs e
    normal_is (var i) = R.add-zero _ ∙ ap₂ ◌*ᴿ◌ one_is (R.mul-one (at 𝟘 xs i)) ∙ R.one-mul (at 𝟘 xs i)
    normal_is (int z) = keep_is z [] none ∙ R.add-zero _ ∙ R.mul-one (of_int R z)
    normal_is nil = refl
    normal_is one = R.add-zero _ ∙ R.mul-one _ ∙ one_is
    normal_is (minus e) = negate_is (normal stays e) ∙ ap R.neg (normal_is e)
    normal_is (e ⊕ f) = plus_is (normal stays e) (normal stays f) ∙ ap₂ ◌+ᴿ◌ (normal_is e) (normal_is f)
    normal_is (e ⊖ f) = plus_is (normal stays e) (negate (normal stays f)) ∙ ap₂ ◌+ᴿ◌ (normal_is e) (negate_is (normal stays f) ∙ ap R.neg (normal_is f))
    normal_is (e ⊗ f) = times_is (normal stays e) (normal stays f) ∙ ap₂ ◌*ᴿ◌ (normal_is e) (normal_is f)

    pub by_normal : (e f : Expr) → normal stays e ≡ normal stays f → value R xs e ≡ value R xs f
    by_normal e f h = sym (normal_is e) ∙ ap (sum R xs) h ∙ normal_is f

  -- an equation that holds in any ring
  pub in_ring : (e f : Expr) → normal as_is e ≡ normal as_is f → value R xs e ≡ value R xs f
  in_ring = by_normal as_is (λ x y e. absurd (cc e))

  -- an equation that holds in any ring whose product commutes
  pub in_commutative : ((a b : A) → a *ᴿ b ≡ b *ᴿ a) → (e f : Expr) → normal sorted e ≡ normal sorted f → value R xs e ≡ value R xs f
  in_commutative comm = by_normal sorted (λ x y e. comm (at 𝟘 xs x) (at 𝟘 xs y))

  below_k : (x y k : ℕ) → central k x y ≡ false → ltb y k ≡ true
  below_k x y k e = by (ltb x y) (ltb y k) e
    where
      by : (a b : Bool) → (a || not b) ≡ false → b ≡ true
      by true b e = absurd (cc e)
      by false true e = refl
      by false false e = absurd (cc e)

  -- an equation that holds in any ring where the first k variables commute with all
  pub in_algebra : (k : ℕ) → ((i : ℕ) → ltb i k ≡ true → (a : A) → a *ᴿ at 𝟘 xs i ≡ at 𝟘 xs i *ᴿ a) → (e f : Expr) → normal (central k) e ≡ normal (central k) f → value R xs e ≡ value R xs f
  in_algebra k commute = by_normal (central k) (λ x y e. commute y (below_k x y k e) (at 𝟘 xs x))

-- ---- an expression that has the value a, found by `search shapes`
pub record Shape (R : Ring) (xs : List R.Elem) (a : R.Elem) : Type 0 where
  pub expr : Expr
  pub is : value R xs expr ≡ a

abbrev pub shape_zero : (R : Ring) (xs : List R.Elem) → Shape R xs R.zero
shape_zero R xs = record { expr = nil; is = refl }

abbrev pub shape_one : (R : Ring) (xs : List R.Elem) → Shape R xs R.one
shape_one R xs = record { expr = one; is = refl }

abbrev pub shape_add : (R : Ring) (xs : List R.Elem) (a b : R.Elem) → Shape R xs a → Shape R xs b → Shape R xs (R.add a b)
shape_add R xs a b p q = record { expr = p.expr ⊕ q.expr; is = ap₂ R.add p.is q.is }

abbrev pub shape_mul : (R : Ring) (xs : List R.Elem) (a b : R.Elem) → Shape R xs a → Shape R xs b → Shape R xs (R.mul a b)
shape_mul R xs a b p q = record { expr = p.expr ⊗ q.expr; is = ap₂ R.mul p.is q.is }

abbrev pub shape_neg : (R : Ring) (xs : List R.Elem) (a : R.Elem) → Shape R xs a → Shape R xs (R.neg a)
shape_neg R xs a p = record { expr = minus p.expr; is = ap R.neg p.is }

abbrev pub shape_0 : (R : Ring) (x0 : R.Elem) (xs : List R.Elem) → Shape R (x0 ∷ xs) x0
shape_0 R x0 xs = record { expr = var 0; is = refl }

abbrev pub shape_1 : (R : Ring) (x0 x1 : R.Elem) (xs : List R.Elem) → Shape R (x0 ∷ x1 ∷ xs) x1
shape_1 R x0 x1 xs = record { expr = var 1; is = refl }

abbrev pub shape_2 : (R : Ring) (x0 x1 x2 : R.Elem) (xs : List R.Elem) → Shape R (x0 ∷ x1 ∷ x2 ∷ xs) x2
shape_2 R x0 x1 x2 xs = record { expr = var 2; is = refl }

abbrev pub shape_3 : (R : Ring) (x0 x1 x2 x3 : R.Elem) (xs : List R.Elem) → Shape R (x0 ∷ x1 ∷ x2 ∷ x3 ∷ xs) x3
shape_3 R x0 x1 x2 x3 xs = record { expr = var 3; is = refl }

abbrev pub shape_4 : (R : Ring) (x0 x1 x2 x3 x4 : R.Elem) (xs : List R.Elem) → Shape R (x0 ∷ x1 ∷ x2 ∷ x3 ∷ x4 ∷ xs) x4
shape_4 R x0 x1 x2 x3 x4 xs = record { expr = var 4; is = refl }

abbrev pub shape_5 : (R : Ring) (x0 x1 x2 x3 x4 x5 : R.Elem) (xs : List R.Elem) → Shape R (x0 ∷ x1 ∷ x2 ∷ x3 ∷ x4 ∷ x5 ∷ xs) x5
shape_5 R x0 x1 x2 x3 x4 x5 xs = record { expr = var 5; is = refl }

abbrev pub shape_6 : (R : Ring) (x0 x1 x2 x3 x4 x5 x6 : R.Elem) (xs : List R.Elem) → Shape R (x0 ∷ x1 ∷ x2 ∷ x3 ∷ x4 ∷ x5 ∷ x6 ∷ xs) x6
shape_6 R x0 x1 x2 x3 x4 x5 x6 xs = record { expr = var 6; is = refl }

abbrev pub shape_7 : (R : Ring) (x0 x1 x2 x3 x4 x5 x6 x7 : R.Elem) (xs : List R.Elem) → Shape R (x0 ∷ x1 ∷ x2 ∷ x3 ∷ x4 ∷ x5 ∷ x6 ∷ x7 ∷ xs) x7
shape_7 R x0 x1 x2 x3 x4 x5 x6 x7 xs = record { expr = var 7; is = refl }

pub ruleset shapes = (shape_0, shape_1, shape_2, shape_3, shape_4, shape_5, shape_6, shape_7, shape_zero, shape_one, shape_add, shape_mul, shape_neg)

pub same_shape : (R : Ring) (xs : List R.Elem) {a b : R.Elem} (p : Shape R xs a) (q : Shape R xs b) → normal as_is p.expr ≡ normal as_is q.expr → a ≡ b
same_shape R xs p q h = sym p.is ∙ in_ring R xs p.expr q.expr h ∙ q.is

pub same_commutative_shape : (R : Ring) (comm : (a b : R.Elem) → R.mul a b ≡ R.mul b a) (xs : List R.Elem) {a b : R.Elem} (p : Shape R xs a) (q : Shape R xs b) → normal sorted p.expr ≡ normal sorted q.expr → a ≡ b
same_commutative_shape R comm xs p q h = sym p.is ∙ in_commutative R xs comm p.expr q.expr h ∙ q.is

-- ---- some variables commute with all: the first k of the list, by the proofs in the tuple
abbrev pub Centrals : (R : Ring) → List R.Elem → ℕ → Type 0
Centrals R xs zero = Unit {0}
Centrals R [] (suc k) = Unit {0}
Centrals R (x ∷ xs) (suc k) = ((a : R.Elem) → R.mul a x ≡ R.mul x a) × Centrals R xs k

commute_at : (R : Ring) (xs : List R.Elem) (k : ℕ) → Centrals R xs k → (i : ℕ) → ltb i k ≡ true → (a : R.Elem) → R.mul a (at R.zero xs i) ≡ R.mul (at R.zero xs i) a
commute_at R xs zero h i e a = absurd (let l : i < 0 = ltb→lt i 0 (subst T (sym e) tt) in omega arith)
commute_at R [] (suc k) h i e a = RingLaws.mul-zero R a ∙ sym (RingLaws.zero-mul R a)
commute_at R (x ∷ xs) (suc k) h zero e a = h.0 a
commute_at R (x ∷ xs) (suc k) h (suc i) e a =
    commute_at R xs k h.1 i (let l : suc i < suc k = ltb→lt (suc i) (suc k) (subst T (sym e) tt) in lt-ltb i k (omega arith)) a

pub same_algebra_shape : (R : Ring) (k : ℕ) (xs : List R.Elem) → Centrals R xs k → {a b : R.Elem} (p : Shape R xs a) (q : Shape R xs b) → normal (central k) p.expr ≡ normal (central k) q.expr → a ≡ b
same_algebra_shape R k xs c p q h = sym p.is ∙ in_algebra R xs k (commute_at R xs k c) p.expr q.expr h ∙ q.is

-- ---- an equation that follows from others: left - right is a sum of m (l - r) n, for facts l ≡ r
pub record Given (R : Ring) (xs : List R.Elem) : Type 0 where
  pub left : Expr
  pub right : Expr
  pub holds : value R xs left ≡ value R xs right

abbrev pub given : (R : Ring) (xs : List R.Elem) {a b : R.Elem} → Shape R xs a → Shape R xs b → a ≡ b → Given R xs
given R xs p q e = record { left = p.expr; right = q.expr; holds = p.is ∙ e ∙ sym q.is }

abbrev pub total : (R : Ring) (xs : List R.Elem) → List (Expr × Given R xs × Expr) → Expr
total R xs [] = nil
total R xs (t ∷ ts) = t.0 ⊗ (t.1.left ⊖ t.1.right) ⊗ t.2 ⊕ total R xs ts

total_zero : (R : Ring) (xs : List R.Elem) (ts : List (Expr × Given R xs × Expr)) → value R xs (total R xs ts) ≡ R.zero
total_zero R xs [] = refl
total_zero R xs (t ∷ ts) =
    ap₂ R.add
    (ap (λ x. R.mul (R.mul (value R xs t.0) x) (value R xs t.2)) (ap (λ x. R.add x (R.neg (value R xs t.1.right))) t.1.holds ∙ R.add-neg (value R xs t.1.right))
    ∙ ap (λ x. R.mul x (value R xs t.2)) (RingLaws.mul-zero R (value R xs t.0))
    ∙ RingLaws.zero-mul R (value R xs t.2))
    (total_zero R xs ts)
    ∙ R.add-zero R.zero

same_from_zero : (R : Ring) (a b : R.Elem) → R.add a (R.neg b) ≡ R.zero → a ≡ b
same_from_zero R a b e = RingLaws.add_cancel R a b (R.neg b) (e ∙ sym (R.add-neg b))

pub same_given : (R : Ring) (xs : List R.Elem) (ts : List (Expr × Given R xs × Expr)) {a b : R.Elem} (p : Shape R xs a) (q : Shape R xs b) → normal as_is (p.expr ⊖ q.expr) ≡ normal as_is (total R xs ts) → a ≡ b
same_given R xs ts p q h = sym p.is ∙ same_from_zero R (value R xs p.expr) (value R xs q.expr) (in_ring R xs (p.expr ⊖ q.expr) (total R xs ts) h ∙ total_zero R xs ts) ∙ q.is

pub same_commutative_given : (R : Ring) (comm : (a b : R.Elem) → R.mul a b ≡ R.mul b a) (xs : List R.Elem) (ts : List (Expr × Given R xs × Expr)) {a b : R.Elem} (p : Shape R xs a) (q : Shape R xs b) → normal sorted (p.expr ⊖ q.expr) ≡ normal sorted (total R xs ts) → a ≡ b
same_commutative_given R comm xs ts p q h =
    sym p.is ∙ same_from_zero R (value R xs p.expr) (value R xs q.expr) (in_commutative R xs comm (p.expr ⊖ q.expr) (total R xs ts) h ∙ total_zero R xs ts) ∙ q.is
