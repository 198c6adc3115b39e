-- The product of operators: distributive, associative, with a unit.
--     times-linear_left, times-linear_right    a product is linear in each factor
--     times_one_left                           one monomial times an operator
--     letter-times                             a letter passes into a product
--     times_assoc                              the product is associative
--     one-times, times-one                     the monomial 1 is its unit
--     times-plus, plus-times                   it distributes over sums
use Rattle.std.proofs.Common.{◌≡◌, ℕ, zero, suc, ◌<◌, ◌≤◌, sym, ap, ◌∙◌, subst, arith}
use native.Mathlib.Decide.{dec_lt}
use Rattle.ore_algebra.specs.Domain.{Domain}
use Rattle.ore_algebra.specs.Free.{plus}
use Rattle.ore_monomial.specs.Monomial.{Monomial, raise, unit, plain_cmp}
use Rattle.ore_monomial.specs.Signature.{Signature, IsLawful}
use Rattle.ore_monomial.specs.LetterRule.{Operator, letter_times, monomial_times}
use Rattle.ore_ring.specs.Product.{times}
use Rattle.ore_algebra.proofs.Linear.{IsLinear}
use Rattle.ore_monomial.proofs.Monomials.{exponent-raise_other, exponent-unit, by_first, IsBelow}
use Rattle.ore_monomial.proofs.Letters.{one_term, by_rule}
use Rattle.ore_monomial.proofs.MonomialProducts.{monomial-linear, monomial_unit, monomial-raise, letter_first}
use Rattle.ore_monomial.proofs.Commute.{rule, linear-by_rule, letter-linear, letter_one, swap}
use Rattle.ore_monomial.proofs.Operators

module _ (K : Domain) (s : Signature) where
  -- a product is linear in each factor
  pub times-linear_left : (g : Operator K) → IsLinear K plain_cmp (λ f. times K s f g)
  unfolding times
  times-linear_left g = Operators.linear_extension-linear K (λ m. monomial_times K s m g)

  pub times-linear_right : (f : Operator K) → IsLinear K plain_cmp (λ g. times K s f g)
  unfolding times
  times-linear_right f = Operators.linear_weights K f (λ m g. monomial_times K s m g) (monomial-linear K s)

  pub times_one_left : (m : Monomial) (g : Operator K) → times K s (one_term K m) g ≡ monomial_times K s m g
  unfolding times
  times_one_left m g = Operators.linear_extension_one K (λ m. monomial_times K s m g) m

module _ (K : Domain) (s : Signature) (lawful : IsLawful s) where
  Passes : ℕ → Type 0
  Passes x = (f g : Operator K) → times K s (letter_times K s x f) g ≡ letter_times K s x (times K s f g)

  passes_next : (x : ℕ) → x < 12 → ((y : ℕ) → y < x → Passes y) → Passes x
  unfolding Passes
  passes_next x xl before f g = Operators.same_linear K (Operators.linear_after K (times-linear_left K s g) (letter-linear K s x)) (Operators.linear_after K (letter-linear K s x) (times-linear_left K s g)) (by_first P at_unit more) f
    where
      P : Monomial → Type 0
      P m = times K s (letter_times K s x (one_term K m)) g ≡ letter_times K s x (times K s (one_term K m) g)

      first : (m : Monomial) → IsBelow x m → P m
      first m b = ap (λ f. times K s f g) (letter_one K s x m ∙ letter_first K s lawful x m b) ∙ times_one_left K s (raise x m) g ∙ monomial-raise K s x m g xl b ∙ ap (letter_times K s x) (sym (times_one_left K s m g))

      at_unit : P unit
      at_unit = first unit (λ y l. exponent-unit y)

      later : (y : ℕ) → y < x → (m : Monomial) → IsBelow y m → P m → P (raise y m)
      later y yx m b ih =
          let f = one_term K m in
          let r = rule K s x y in
          let is : letter_times K s y f ≡ one_term K (raise y m) = letter_one K s y m ∙ letter_first K s lawful y m b in
          subst (λ f. times K s (letter_times K s x f) g ≡ letter_times K s x (times K s f g)) is
          (ap (λ h. times K s h g) (swap K s lawful x y xl yx f)
          ∙ linear-by_rule K r (times-linear_left K s g) _ _ _ _
          ∙ (λ i. by_rule K r ((before y yx (letter_times K s x f) g ∙ ap (letter_times K s y) ih) i) (ih i) (times K s f g) (before y yx f g i))
          ∙ sym (swap K s lawful x y xl yx (times K s f g))
          ∙ ap (letter_times K s x) (sym (before y yx f g)))

      more : (y : ℕ) → y < 12 → (m : Monomial) → IsBelow y m → P m → P (raise y m)
      more y yl m b ih = by (dec_lt y x)
        where
          by : Dec (y < x) → P (raise y m)
          by (yes l) = later y l m b ih
          by (no n) = first (raise y m) (λ z l. let lt : z < y = omega arith in exponent-raise_other y z m (omega arith) ∙ b z lt)

  passes_at : (n x : ℕ) → n < 12 → x < suc n → ((y : ℕ) → y < n → Passes y) → Dec (x < n) → Passes x
  passes_at n x h l before (yes k) = before x k
  passes_at n x h l before (no k) = let e : n ≡ x = omega arith in subst Passes e (passes_next n h before)

  passes_below : (n : ℕ) → n ≤ 12 → (x : ℕ) → x < n → Passes x
  passes_below zero h x l = absurd (omega arith)
  passes_below (suc n) h x l = passes_at n x h l (passes_below n (omega arith)) (dec_lt x n)

  -- a letter passes into a product
  pub letter-times : (x : ℕ) → x < 12 → (f g : Operator K) → times K s (letter_times K s x f) g ≡ letter_times K s x (times K s f g)
  unfolding Passes
  letter-times x h = passes_below 12 (omega arith) x h

  monomial-times : (m : Monomial) (g h : Operator K) → times K s (monomial_times K s m g) h ≡ monomial_times K s m (times K s g h)
  monomial-times m g h = by_first (λ m. times K s (monomial_times K s m g) h ≡ monomial_times K s m (times K s g h))
      (ap (λ f. times K s f h) (monomial_unit K s g) ∙ sym (monomial_unit K s _))
      (λ x xl m b ih. ap (λ f. times K s f h) (monomial-raise K s x m g xl b) ∙ letter-times x xl (monomial_times K s m g) h ∙ ap (letter_times K s x) ih ∙ sym (monomial-raise K s x m _ xl b))
      m

  -- the product is associative
  pub times_assoc : (f g h : Operator K) → times K s (times K s f g) h ≡ times K s f (times K s g h)
  times_assoc f g h = Operators.same_linear K
      (Operators.linear_after K (times-linear_left K s h) (times-linear_left K s g))
      (times-linear_left K s (times K s g h))
      (λ m. ap (λ f. times K s f h) (times_one_left K s m g) ∙ monomial-times m g h ∙ sym (times_one_left K s m (times K s g h))) f

  pub one-times : (g : Operator K) → times K s (one_term K unit) g ≡ g
  one-times g = times_one_left K s unit g ∙ monomial_unit K s g

  pub monomial_one : (m : Monomial) → monomial_times K s m (one_term K unit) ≡ one_term K m
  monomial_one = by_first (λ m. monomial_times K s m (one_term K unit) ≡ one_term K m) (monomial_unit K s _)
      (λ x xl m b ih. monomial-raise K s x m _ xl b ∙ ap (letter_times K s x) ih ∙ letter_one K s x m ∙ letter_first K s lawful x m b)

  pub times-one : (f : Operator K) → times K s f (one_term K unit) ≡ f
  times-one f = Operators.same_linear K (times-linear_left K s (one_term K unit)) (Operators.linear_itself K) (λ m. times_one_left K s m _ ∙ monomial_one m) f

  -- the product distributes over sums
  pub times-plus : (f g h : Operator K) → times K s f (plus K plain_cmp g h) ≡ plus K plain_cmp (times K s f g) (times K s f h)
  times-plus f g h = (times-linear_right K s f).plus g h

  pub plus-times : (f g h : Operator K) → times K s (plus K plain_cmp f g) h ≡ plus K plain_cmp (times K s f h) (times K s g h)
  plus-times f g h = (times-linear_left K s h).plus f g
