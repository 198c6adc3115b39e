-- No exponent of a product is above the sum of the factors' exponents.
--     own          1 at its own variable, and 0 at others
--     AtMost       an operator has no exponent of y above d
--     most_none, most_plus, most_scale, most_single, most_linear_extension    zero, sums, multiples, one term, linear maps
--     times_most   products
--     bound_of     each operator has a bound on all its exponents
use Rattle.std.proofs.Common.{◌≡◌, ◌≢◌, ℕ, ◌+◌, ◌<◌, ◌≤◌, Bool, true, false, refl, sym, ap, ◌∙◌, subst, arith}
use native.Mathlib.Decide.{dec_lt, ℕ_discrete}
use Rattle.ore_algebra.specs.Domain.{Domain}
use Rattle.ore_algebra.specs.Free.{empty_sum, single, plus, scale, linear_extension, coefficient}
use Rattle.ore_monomial.specs.Monomial.{Monomial, exponent, degree, raise, unit, plain_cmp}
use Rattle.ore_monomial.specs.Signature.{Signature, kind_at, coordinate_of, is_acting, IsLawful}
use Rattle.ore_monomial.specs.LetterRule.{Operator, letter, letter_times, monomial_times}
use Rattle.ore_ring.specs.Product.{times}
use Rattle.ore_algebra.proofs.DomainLaws as Numbers
use Rattle.ore_monomial.proofs.Monomials.{exponent-raise, exponent-raise_other, by_first, by_exponent, exponent-degree}
use Rattle.ore_monomial.proofs.Letters.{one_term, by_rule}
use Rattle.ore_monomial.proofs.Commute.{letter_still, letter_clear, letter-raise_own}
use Rattle.ore_monomial.proofs.MonomialProducts.{monomial_unit, monomial-raise}
use Rattle.ore_monomial.proofs.Operators

-- 1 at its own variable
pub own : ℕ → ℕ → ℕ
own x y = elim (ℕ_discrete y x) [ yes e ↦ 1 | no n ↦ 0 ]

pub own_other : (x y : ℕ) → x ≢ y → own x y ≡ 0
unfolding own
own_other x y n = by (ℕ_discrete y x)
  where
    by : (d : Dec (y ≡ x)) → ◌≡◌ {A = ℕ} (elim d [ yes e ↦ 1 | no k ↦ 0 ]) 0
    by (yes e) = absurd (n (sym e))
    by (no k) = refl

pub exponent-raise_any : (x y : ℕ) (m : Monomial) → x < 12 → exponent (raise x m) y ≡ exponent m y + own x y
unfolding own
exponent-raise_any x y m h = by (ℕ_discrete y x)
  where
    by : (d : Dec (y ≡ x)) → exponent (raise x m) y ≡ exponent m y + elim d [ yes e ↦ 1 | no n ↦ 0 ]
    by (yes e) = ap (exponent (raise x m)) e ∙ exponent-raise x m h ∙ (let p : exponent m y ≡ exponent m x = ap (exponent m) e in omega arith)
    by (no n) = exponent-raise_other x y m n ∙ omega arith

module _ (K : Domain) (y : ℕ) where
  -- f has no exponent of y above d
  abbrev pub AtMost : ℕ → Operator K → Type 0
  AtMost d f = (q : Monomial) → d < exponent q y → coefficient K plain_cmp f q ≡ K.zero

  pub most_none : (d : ℕ) → AtMost d (empty_sum K plain_cmp)
  most_none d q h = Operators.coefficient-empty_sum K q

  pub most_plus : (d : ℕ) (f g : Operator K) → AtMost d f → AtMost d g → AtMost d (plus K plain_cmp f g)
  most_plus d f g a b q h = Operators.coefficient-plus K f g q ∙ (λ i. K.plus (a q h i) (b q h i)) ∙ K.plus_zero _

  pub most_scale : (d : ℕ) (k : K.Number) (f : Operator K) → AtMost d f → AtMost d (scale K plain_cmp k f)
  most_scale d k f a q h = Operators.coefficient-scale K k f q ∙ ap (K.times k) (a q h) ∙ Numbers.times_zero K k

  pub most_single : (d : ℕ) (m : Monomial) (k : K.Number) → exponent m y ≤ d → AtMost d (single K plain_cmp m k)
  most_single d m k l q h = Operators.coefficient-other K m k q (λ e. let same : exponent q y ≡ exponent m y = ap (λ p. exponent p y) e in absurd (omega arith))

  pub most_more : (d e : ℕ) (f : Operator K) → d ≤ e → AtMost d f → AtMost e f
  most_more d e f l a q h = a q (omega arith)

  pub most_linear_extension : (d e : ℕ) (h : Monomial → Operator K) (f : Operator K) → ((m : Monomial) → exponent m y ≤ d → AtMost e (h m)) → AtMost d f → AtMost e (linear_extension K plain_cmp h f)
  most_linear_extension d e h f a b q l = Operators.coefficient-linear_extension K h f q ∙ Operators.total_vanish K _ f (λ m. by m (dec_lt d (exponent m y)))
    where
      by : (m : Monomial) → Dec (d < exponent m y) → K.times (coefficient K plain_cmp f m) (coefficient K plain_cmp (h m) q) ≡ K.zero
      by m (yes s) = ap (λ k. K.times k (coefficient K plain_cmp (h m) q)) (b m s) ∙ Numbers.zero_times K _
      by m (no n) = ap (K.times _) (a m (omega arith) q l) ∙ Numbers.times_zero K _

module _ (K : Domain) (s : Signature) (lawful : IsLawful s) (y : ℕ) where
  letter_most : (x : ℕ) → x < 12 → (m : Monomial) → AtMost K y (exponent m y + own x y) (letter K s x m)
  unfolding by_rule letter_times
  letter_most x xl = by (is_acting (kind_at s x)) refl
    where
      t : ℕ
      t = coordinate_of (kind_at s x)

      plain : (m : Monomial) → letter K s x m ≡ one_term K (raise x m) → AtMost K y (exponent m y + own x y) (letter K s x m)
      plain m e = subst (AtMost K y (exponent m y + own x y)) (sym e) (most_single K y (exponent m y + own x y) (raise x m) K.one (let p = exponent-raise_any x y m xl in omega arith))

      more : is_acting (kind_at s x) ≡ true → (m : Monomial) → AtMost K y (exponent m y + own x y) (letter K s x m) → AtMost K y (exponent (raise t m) y + own x y) (letter K s x (raise t m))
      more h m ih =
          let before = (lawful x h).0 in
          let tl : t < 12 = omega arith in
          let still : is_acting (kind_at s t) ≡ false = ap is_acting (lawful x h).1 in
          let et = exponent-raise_any t y m tl in
          let d = exponent (raise t m) y + own x y in
          let low : AtMost K y d (letter K s x m) = most_more K y (exponent m y + own x y) d (letter K s x m) (omega arith) ih in
          subst (AtMost K y d) (sym (letter-raise_own K s lawful x m xl h))
          (most_plus K y d _ _
          (most_linear_extension K y (exponent m y + own x y) d (letter K s t) (letter K s x m)
          (λ n l. subst (AtMost K y d) (sym (letter_still K s t n still)) (most_single K y d (raise t n) K.one (let p = exponent-raise_any t y n tl in omega arith))) ih)
          (most_plus K y d _ _ (most_scale K y d _ _ low)
          (most_plus K y d _ _ (most_scale K y d _ _ (most_single K y d m K.one (omega arith))) (most_scale K y d _ _ (most_single K y d (raise t m) K.one (omega arith))))))

      by : (c : Bool) → is_acting (kind_at s x) ≡ c → (m : Monomial) → AtMost K y (exponent m y + own x y) (letter K s x m)
      by false h m = plain m (letter_still K s x m h)
      by true h m = by_exponent t (let e = (lawful x h).0 in omega arith) (λ m. AtMost K y (exponent m y + own x y) (letter K s x m)) (λ m e. plain m (letter_clear K s x m e)) (more h) m

  pub letter_times_most : (x : ℕ) → x < 12 → (d : ℕ) (f : Operator K) → AtMost K y d f → AtMost K y (d + own x y) (letter_times K s x f)
  unfolding letter_times
  letter_times_most x xl d f h = most_linear_extension K y d (d + own x y) (letter K s x) f (λ m l. most_more K y (exponent m y + own x y) (d + own x y) _ (omega arith) (letter_most x xl m)) h

  monomial_most : (m : Monomial) (d : ℕ) (f : Operator K) → AtMost K y d f → AtMost K y (exponent m y + d) (monomial_times K s m f)
  monomial_most m d f h = by_first (λ m. AtMost K y (exponent m y + d) (monomial_times K s m f))
      (subst (AtMost K y (exponent unit y + d)) (sym (monomial_unit K s f)) (most_more K y d (exponent unit y + d) f (omega arith) h))
      (λ x xl m b ih. subst (AtMost K y (exponent (raise x m) y + d)) (sym (monomial-raise K s x m f xl b)) (let p = exponent-raise_any x y m xl in most_more K y (exponent m y + d + own x y) (exponent (raise x m) y + d) _ (omega arith) (letter_times_most x xl (exponent m y + d) _ ih)))
      m

  pub times_most : (d e : ℕ) (f g : Operator K) → AtMost K y d f → AtMost K y e g → AtMost K y (d + e) (times K s f g)
  unfolding times
  times_most d e f g a b = most_linear_extension K y d (d + e) (λ m. monomial_times K s m g) f (λ m l. most_more K y (exponent m y + e) (d + e) _ (omega arith) (monomial_most m e g b)) a

-- each operator has a bound on all its exponents
module _ (K : Domain) where
  pub bound_of : (f : Operator K) → (d : ℕ) × ((y : ℕ) → AtMost K y d f)
  bound_of = Operators.by_terms K (λ f. (d : ℕ) × ((y : ℕ) → AtMost K y d f)) (0, λ y. most_none K y 0)
      (λ m k f r. (degree m + r.0, λ y. most_plus K y (degree m + r.0) _ _ (most_single K y (degree m + r.0) m k (let p = exponent-degree m y in omega arith)) (most_more K y r.0 (degree m + r.0) f (omega arith) (r.1 y))))
