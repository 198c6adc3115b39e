-- What sums and products within limits give.
--     plus_unlimited, times_unlimited ..    with no limits they are the sums and products
--     product_contributed      the contributions of a product of two monomials
--     plus_at_most, times_at_most ..                       Ok within limits is the same value
--     plus_value, times_value  so an Ok is the sum, the product
use Rattle.std.proofs.Common.{◌≡◌, Bool, true, false, cond, ◌&&◌, List, [], ◌∷◌, map, ℤ, pos, nat_abs, refl, sym, ap, ◌∙◌, subst}
use Rattle.std.specs.declared.result.Result.{Result}
use Rattle.std.specs.declared.result.Result.TheVariants.{Ok, Err}
use Rattle.std.specs.List.{list_all}
use Rattle.ore_rational.specs.Fraction.{Fraction, whole, add, mul}
use Rattle.ore_rational.specs.Field.{rationals}
use Rattle.ore_rational.specs.FractionRing.{fraction_discrete}
use Rattle.ore_algebra.specs.Free.{terms, empty_sum, single}
use Rattle.ore_monomial.specs.Monomial.{Monomial, plain_cmp}
use Rattle.ore_monomial.specs.Signature.{Signature}
use Rattle.ore_monomial.specs.LetterRule.{Operator, monomial_times}
use Rattle.ore_ring.specs.Product.{times}
use Rattle.ore_monomial.proofs.Operators
use Rattle.ore_monomial.proofs.MonomialProducts.{monomial-linear}
use Rattle.ore_ring.proofs.Product.{times-linear_left, times_one_left}
use Rattle.ore_algebra.specs.Limits.{Limits, Cause, Overflow, Degree, unlimited, is_within, ◌>>=◌, guard, fold_within, IsAtMost}
use Rattle.ore_algebra.proofs.LimitLaws.{most_test, most_bind, most_fold, value_from}
use Rattle.ore_rational.specs.Within.{sum_fits, sum_within, fits, product_within}
use Rattle.ore_rational.proofs.WithinLaws.{sum_unlimited, product_unlimited}
use Rattle.ore_ring.specs.Terms.{Summand, Terms, falling}
use Rattle.ore_ring.specs.Within.{add_term_within, shared_fits, all_shared_fit, plus_within, degrees_fit, contribute, pair_within, row_within, times_within}
use Rattle.ore_monomial.specs.Numbers.{numbers, numbers_within}
use Rattle.ore_ring.proofs.TermLaws.{C, ◌+◌, sc, collect-falling}
use Rattle.ore_ring.proofs.Mapped.{numbers_are}

abbrev one_of : Monomial → Fraction → Operator rationals
one_of = single rationals plain_cmp

-- ---- no limits

pub add_term_unlimited : (f : Operator rationals) (m : Monomial) (c : Fraction) → add_term_within unlimited f m c ≡ Ok (f + one_of m c)
unfolding add_term_within sum_within sum_fits
add_term_unlimited f m c = refl

all_true : {A : Type 0} (test : A → Bool) → ((x : A) → test x ≡ true) → (xs : List A) → list_all test xs ≡ true
all_true test h [] = refl
all_true test h (x ∷ xs) = λ i. h x i && all_true test h xs i

pub numbers_unlimited : (ks : List (Monomial × ℤ)) → numbers_within unlimited ks ≡ Ok ks
unfolding numbers_within
numbers_unlimited ks = ap (λ b. guard b ks Overflow) (all_true (λ (k : Monomial × ℤ). true) (λ k. refl) ks)

shared_unlimited : (x y : Fraction) → shared_fits unlimited x y ≡ true
unfolding shared_fits sum_fits
shared_unlimited x y = by (fraction_discrete y (whole (pos 0)))
  where
    by : (d : Dec (y ≡ whole (pos 0))) → ◌≡◌ {A = Bool} (elim d [ yes e ↦ true | no n ↦ true ]) true
    by (yes e) = refl
    by (no n) = refl

pub plus_unlimited : (f g : Operator rationals) → plus_within unlimited f g ≡ Ok (f + g)
unfolding plus_within all_shared_fit
plus_unlimited f g = ap (λ b. guard b (f + g) Overflow) (all_true _ (λ t. shared_unlimited t.1 _) (terms rationals plain_cmp f))

module _ (s : Signature) where
  abbrev H : Monomial → Operator rationals → Operator rationals
  H = monomial_times rationals s

  abbrev as_fractions : List (Monomial × ℤ) → Terms
  as_fractions ks = map (λ k. (k.0, whole k.1)) ks

  pub contributions : (uv : Fraction) (acc : Operator rationals) (ks : List (Monomial × ℤ)) → fold_within (contribute unlimited uv) acc ks ≡ Ok (acc + sc uv (C (as_fractions ks)))
  unfolding contribute add_term_within sum_within sum_fits product_within fits empty_sum
  contributions uv acc [] = ap Ok (sym (ap (λ f. acc + f) (Operators.scale-empty_sum rationals uv) ∙ Operators.plus_zero rationals acc))
  contributions uv acc (k ∷ ks) =
      contributions uv (acc + one_of k.0 (mul uv (whole k.1))) ks
      ∙ ap Ok (Operators.plus_assoc rationals acc _ _ ∙ ap (λ f. acc + f)
      (sym (ap (sc uv) (Operators.collect_more rationals k.0 (whole k.1) (as_fractions ks)) ∙ Operators.scale-plus rationals uv _ _ ∙ ap (λ f. f + sc uv (C (as_fractions ks))) (Operators.scale-single rationals uv (whole k.1) k.0))))

  -- the contributions of a product of two monomials
  pub product_contributed : (uv : Fraction) (m n : Monomial) (acc : Operator rationals) → (numbers_within unlimited (numbers s m n) >>= λ ks. fold_within (contribute unlimited uv) acc ks) ≡ Ok (acc + sc uv (H m (one_of n (whole (pos 1)))))
  product_contributed uv m n acc = ap (λ r. r >>= λ ks. fold_within (contribute unlimited uv) acc ks) (numbers_unlimited (numbers s m n)) ∙ contributions uv acc (numbers s m n) ∙ ap (λ f. Ok (acc + sc uv f)) (numbers_are s m n)

  pair_is : (t u : Summand) (acc : Operator rationals) → pair_within unlimited s t acc u ≡ Ok (acc + sc t.1 (sc u.1 (H t.0 (one_of u.0 (whole (pos 1))))))
  unfolding pair_within product_within fits
  pair_is t u acc = product_contributed (mul t.1 u.1) t.0 u.0 acc ∙ ap (λ f. Ok (acc + f)) (sym (Operators.scale-scale rationals t.1 u.1 _))

  row_is : (t : Summand) (us : Terms) (acc : Operator rationals) → fold_within (pair_within unlimited s t) acc us ≡ Ok (acc + sc t.1 (H t.0 (C us)))
  unfolding empty_sum
  row_is t [] acc = ap Ok (sym (ap (λ f. acc + sc t.1 f) (Operators.linear-empty_sum rationals (monomial-linear rationals s t.0)) ∙ ap (λ f. acc + f) (Operators.scale-empty_sum rationals t.1) ∙ Operators.plus_zero rationals acc))
  row_is t (u ∷ us) acc =
      let linear = monomial-linear rationals s t.0 in
      ap (λ r. r >>= λ a. fold_within (pair_within unlimited s t) a us) (pair_is t u acc)
      ∙ row_is t us (acc + sc t.1 (sc u.1 (H t.0 (one_of u.0 (whole (pos 1))))))
      ∙ ap Ok (Operators.plus_assoc rationals acc _ _ ∙ ap (λ f. acc + f)
      (sym (ap (λ f. sc t.1 (H t.0 f)) (Operators.collect_more rationals u.0 u.1 us ∙ ap (λ f. f + C us) (Operators.single_scale rationals u.0 u.1)) ∙ ap (sc t.1) (linear.plus _ _ ∙ ap (λ f. f + H t.0 (C us)) (linear.scale u.1 _)) ∙ Operators.scale-plus rationals t.1 _ _)))

  rows_are : (us ts : Terms) (acc : Operator rationals) → fold_within (row_within unlimited s us) acc ts ≡ Ok (acc + times rationals s (C ts) (C us))
  unfolding empty_sum row_within
  rows_are us [] acc = ap Ok (sym (ap (λ f. acc + f) (Operators.linear-empty_sum rationals (times-linear_left rationals s (C us))) ∙ Operators.plus_zero rationals acc))
  rows_are us (t ∷ ts) acc =
      let linear = times-linear_left rationals s (C us) in
      ap (λ r. r >>= λ a. fold_within (row_within unlimited s us) a ts) (row_is t us acc)
      ∙ rows_are us ts (acc + sc t.1 (H t.0 (C us)))
      ∙ ap Ok (Operators.plus_assoc rationals acc _ _ ∙ ap (λ f. acc + f)
      (sym (ap (λ f. times rationals s f (C us)) (Operators.collect_more rationals t.0 t.1 ts ∙ ap (λ f. f + C ts) (Operators.single_scale rationals t.0 t.1)) ∙ linear.plus _ _ ∙ ap (λ f. f + times rationals s (C ts) (C us)) (linear.scale t.1 _ ∙ ap (sc t.1) (times_one_left rationals s t.0 (C us))))))

  degrees_unlimited : (ts us : Terms) → degrees_fit unlimited ts us ≡ true
  unfolding degrees_fit
  degrees_unlimited ts us = all_true _ (λ t. all_true _ (λ u. refl) us) ts

  pub times_unlimited : (f g : Operator rationals) → times_within unlimited s f g ≡ Ok (times rationals s f g)
  unfolding times_within
  times_unlimited f g =
      let o = s.order in
      ap (λ b. cond b (fold_within (row_within unlimited s (falling o g)) (empty_sum rationals plain_cmp) (falling o f)) (Err Degree)) (degrees_unlimited (falling o f) (falling o g))
      ∙ rows_are (falling o g) (falling o f) (empty_sum rationals plain_cmp)
      ∙ ap Ok (Operators.zero-plus rationals _ ∙ (λ i. times rationals s (collect-falling o f i) (collect-falling o g i)))

-- ---- Ok within limits is the same value

module _ (l : Limits) where
  pub sum_at_most : (p q : Fraction) → IsAtMost (sum_within l p q) (sum_within unlimited p q)
  unfolding sum_within
  sum_at_most p q = subst (IsAtMost (guard (sum_fits l p q) (add p q) Overflow)) (sym (sum_unlimited p q)) (most_test (sum_fits l p q) (add p q) Overflow)

  pub product_at_most : (p q : Fraction) → IsAtMost (product_within l p q) (product_within unlimited p q)
  unfolding product_within
  product_at_most p q = subst (IsAtMost (guard (fits l (mul p q)) (mul p q) Overflow)) (sym (product_unlimited p q)) (most_test (fits l (mul p q)) (mul p q) Overflow)

  pub add_term_at_most : (f : Operator rationals) (m : Monomial) (c : Fraction) → IsAtMost (add_term_within l f m c) (add_term_within unlimited f m c)
  unfolding add_term_within
  add_term_at_most f m c = most_bind _ _ _ _ (sum_at_most _ c) (λ x. refl)

  numbers_by : (ks : List (Monomial × ℤ)) → IsAtMost (numbers_within l ks) (Ok ks)
  unfolding numbers_within
  numbers_by ks = most_test (list_all (λ k. is_within l.magnitude (nat_abs k.1)) ks) ks Overflow

  plus_by : (f g : Operator rationals) → IsAtMost (plus_within l f g) (Ok (f + g))
  unfolding plus_within
  plus_by f g = most_test (all_shared_fit l g (terms rationals plain_cmp f)) (f + g) Overflow

  pub plus_at_most : (f g : Operator rationals) → IsAtMost (plus_within l f g) (plus_within unlimited f g)
  plus_at_most f g = subst (IsAtMost (plus_within l f g)) (sym (plus_unlimited f g)) (plus_by f g)

  pub numbers_at_most : (ks : List (Monomial × ℤ)) → IsAtMost (numbers_within l ks) (numbers_within unlimited ks)
  numbers_at_most ks = subst (IsAtMost (numbers_within l ks)) (sym (numbers_unlimited ks)) (numbers_by ks)

  pub contribute_at_most : (uv : Fraction) (acc : Operator rationals) (k : Monomial × ℤ) → IsAtMost (contribute l uv acc k) (contribute unlimited uv acc k)
  unfolding contribute
  contribute_at_most uv acc k = most_bind _ _ _ _ (product_at_most uv (whole k.1)) (λ c. add_term_at_most acc k.0 c)

  pub contributions_at_most : (uv : Fraction) (acc : Operator rationals) (ks : List (Monomial × ℤ)) → IsAtMost (numbers_within l ks >>= λ ks. fold_within (contribute l uv) acc ks) (numbers_within unlimited ks >>= λ ks. fold_within (contribute unlimited uv) acc ks)
  contributions_at_most uv acc ks = most_bind _ _ _ _ (numbers_at_most ks) (λ ks. most_fold _ _ (contribute_at_most uv) acc ks)

  module _ (s : Signature) where
    pub pair_at_most : (t : Summand) (acc : Operator rationals) (u : Summand) → IsAtMost (pair_within l s t acc u) (pair_within unlimited s t acc u)
    unfolding pair_within
    pair_at_most t acc u = most_bind _ _ _ _ (product_at_most t.1 u.1) (λ uv. contributions_at_most uv acc (numbers s t.0 u.0))

    pub row_at_most : (us : Terms) (acc : Operator rationals) (t : Summand) → IsAtMost (row_within l s us acc t) (row_within unlimited s us acc t)
    unfolding row_within
    row_at_most us acc t = most_fold _ _ (pair_at_most t) acc us

    most_cond : {A : Type 0} (b c : Bool) (r s : Result A Cause) (e : Cause) → c ≡ true → IsAtMost r s → IsAtMost (cond b r (Err e)) (cond c s (Err e))
    most_cond true c r s e h k = subst (λ d. IsAtMost r (cond d s (Err e))) (sym h) k
    most_cond false c r s e h k = tt

    pub times_at_most : (f g : Operator rationals) → IsAtMost (times_within l s f g) (times_within unlimited s f g)
    unfolding times_within degrees_fit
    times_at_most f g =
        most_cond _ _ _ _ Degree (all_true _ (λ t. all_true _ (λ u. refl) (falling s.order g)) (falling s.order f)) (most_fold _ _ (row_at_most (falling s.order g)) (empty_sum rationals plain_cmp) (falling s.order f))

-- ---- so an Ok is the mathematical value

module _ (l : Limits) where
  pub plus_value : (f g x : Operator rationals) → plus_within l f g ≡ Ok x → x ≡ f + g
  plus_value f g x e = value_from (plus_within l f g) _ x (f + g) (plus_at_most l f g) (plus_unlimited f g) e

  pub times_value : (s : Signature) (f g x : Operator rationals) → times_within l s f g ≡ Ok x → x ≡ times rationals s f g
  times_value s f g x e = value_from (times_within l s f g) _ x (times rationals s f g) (times_at_most l s f g) (times_unlimited s f g) e
