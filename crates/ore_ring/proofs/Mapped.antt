-- Operators over one domain sent to another by a map of its numbers.
--     sent                 the operator with each coefficient sent
--     monomial_times-sent  a product of monomials over one domain, sent, is that over the other
--     numbers_are          the whole numbers of a product of monomials are its coefficients as fractions
use Rattle.std.proofs.Common.{◌≡◌, ℕ, zero, suc, cond, true, false, List, [], ◌∷◌, map, pos, refl, sym, ap, ◌∙◌}
use Rattle.ore_algebra.specs.Ring.{of_nat, power}
use Rattle.ore_algebra.specs.Domain.{Domain}
use Rattle.ore_algebra.specs.Free.{empty_sum, single, plus, scale, linear_extension, collect, terms, coefficient}
use Rattle.ore_algebra.proofs.Integers.{integers}
use Rattle.ore_algebra.proofs.RingMaps.{IsRingMap, sent-of_nat, sent-power, sent_terms, sum_at-sent}
use Rattle.ore_rational.specs.Fraction.{whole}
use Rattle.ore_rational.specs.Field.{rationals}
use Rattle.ore_rational.specs.FractionRing.{whole-add, whole-mul, whole-neg}
use Rattle.ore_monomial.specs.Monomial.{Monomial, exponent, raise, lower, plain_cmp}
use Rattle.ore_monomial.specs.Signature.{Signature, kind_at, coordinate_of}
use Rattle.ore_monomial.specs.declared.signature.VarKind.{VarKind}
use Rattle.ore_monomial.specs.declared.signature.VarKind.TheVariants.{Coordinate, Constant, Plain, Differential, Shift, Delay}
use Rattle.ore_monomial.specs.Passing.{Passing, passings, shift_passings, choose, numbers_to}
use Rattle.ore_monomial.specs.LetterRule.{Operator, letter, letter_times, power_times, letters_times, monomial_times}
use Rattle.ore_monomial.proofs.Operators
use Rattle.ore_monomial.specs.Numbers.{numbers}
use Rattle.ore_monomial.proofs.FallingTerms.{collect-falling_over}

module _ (K L : Domain) (f : K.Number → L.Number) (r : IsRingMap K L f) where
  unfoldable pub sent : Operator K → Operator L
  sent g = collect L plain_cmp (sent_terms K L f (terms K plain_cmp g))

  pub collect-sent : (ts : List (Monomial × K.Number)) → sent (collect K plain_cmp ts) ≡ collect L plain_cmp (sent_terms K L f ts)
  unfolding sent
  collect-sent ts = Operators.same_sum L _ _ (λ q.
      Operators.coefficient-collect L _ q
      ∙ sum_at-sent K L f r plain_cmp q (terms K plain_cmp (collect K plain_cmp ts))
      ∙ ap f (sym (Operators.coefficient-collect K (terms K plain_cmp (collect K plain_cmp ts)) q) ∙ ap (λ g. coefficient K plain_cmp g q) (Operators.collect-terms K (collect K plain_cmp ts)) ∙ Operators.coefficient-collect K ts q)
      ∙ sym (sum_at-sent K L f r plain_cmp q ts)
      ∙ sym (Operators.coefficient-collect L (sent_terms K L f ts) q))

  pub coefficient-sent : (g : Operator K) (q : Monomial) → coefficient L plain_cmp (sent g) q ≡ f (coefficient K plain_cmp g q)
  unfolding sent
  coefficient-sent g q = Operators.coefficient-collect L _ q ∙ sum_at-sent K L f r plain_cmp q (terms K plain_cmp g) ∙ ap f (sym (Operators.coefficient-collect K (terms K plain_cmp g) q) ∙ ap (λ g. coefficient K plain_cmp g q) (Operators.collect-terms K g))

  sent-empty_sum : sent (empty_sum K plain_cmp) ≡ empty_sum L plain_cmp
  sent-empty_sum = Operators.same_sum L _ _ (λ q. coefficient-sent _ q ∙ ap f (Operators.coefficient-empty_sum K q) ∙ r.zero ∙ sym (Operators.coefficient-empty_sum L q))

  sent-plus : (g h : Operator K) → sent (plus K plain_cmp g h) ≡ plus L plain_cmp (sent g) (sent h)
  sent-plus g h = Operators.same_sum L _ _ (λ q. coefficient-sent _ q ∙ ap f (Operators.coefficient-plus K g h q) ∙ r.plus _ _ ∙ (λ i. L.plus (sym (coefficient-sent g q) i) (sym (coefficient-sent h q) i)) ∙ sym (Operators.coefficient-plus L (sent g) (sent h) q))

  sent-scale : (k : K.Number) (g : Operator K) → sent (scale K plain_cmp k g) ≡ scale L plain_cmp (f k) (sent g)
  sent-scale k g = Operators.same_sum L _ _ (λ q. coefficient-sent _ q ∙ ap f (Operators.coefficient-scale K k g q) ∙ r.times _ _ ∙ ap (L.times (f k)) (sym (coefficient-sent g q)) ∙ sym (Operators.coefficient-scale L (f k) (sent g) q))

  pub sent-single : (m : Monomial) (k : K.Number) → sent (single K plain_cmp m k) ≡ single L plain_cmp m (f k)
  unfolding single
  sent-single m k = collect-sent ((m, k) ∷ [])

  sent-extend : (h : Monomial → Operator K) (h' : Monomial → Operator L) → ((m : Monomial) → sent (h m) ≡ h' m) → (g : Operator K) → sent (linear_extension K plain_cmp h g) ≡ linear_extension L plain_cmp h' (sent g)
  sent-extend h h' e = Operators.by_terms K (λ g. sent (linear_extension K plain_cmp h g) ≡ linear_extension L plain_cmp h' (sent g))
      (ap sent (Operators.linear_extension-empty_sum K h) ∙ sent-empty_sum ∙ sym (ap (linear_extension L plain_cmp h') sent-empty_sum ∙ Operators.linear_extension-empty_sum L h'))
      (λ m k g ih.
      ap sent (Operators.linear_extension-plus K h (single K plain_cmp m k) g) ∙ sent-plus _ _
      ∙ (λ i. plus L plain_cmp ((ap sent (Operators.linear_extension-single K h m k) ∙ sent-scale k (h m) ∙ ap (scale L plain_cmp (f k)) (e m) ∙ sym (ap (linear_extension L plain_cmp h') (sent-single m k) ∙ Operators.linear_extension-single L h' m (f k))) i) (ih i))
      ∙ sym (Operators.linear_extension-plus L h' (sent (single K plain_cmp m k)) (sent g))
      ∙ sym (ap (linear_extension L plain_cmp h') (sent-plus (single K plain_cmp m k) g)))

  -- ---- the letter rule

  sent_passing : Passing K → Passing L
  sent_passing p = record { number = f p.number; falls = p.falls; stays = p.stays }

  sent-shift : (x : K.Number) (y : L.Number) → f x ≡ y → (a : ℕ) → map sent_passing (shift_passings K x a) ≡ shift_passings L y a
  unfolding shift_passings sent_passing
  sent-shift x y e a = over (numbers_to a)
    where
      over : (js : List ℕ) → map sent_passing (map (λ j. record { number = K.times (of_nat K.ring (choose a j)) (power K.ring x j); falls = j; stays = true }) js)
          ≡ map (λ j. record { number = L.times (of_nat L.ring (choose a j)) (power L.ring y j); falls = j; stays = true }) js
      over [] = refl
      over (j ∷ js) = λ i. record { number = (r.times _ _ ∙ (λ l. L.times (sent-of_nat K L f r (choose a j) l) (sent-power K L f r x y e j l))) i; falls = j; stays = true } ∷ over js i

  sent-passings : (v : VarKind) (a : ℕ) → map sent_passing (passings K v a) ≡ passings L v a
  unfolding passings sent_passing
  sent-passings Coordinate a = λ i. record { number = r.one i; falls = 0; stays = true } ∷ []
  sent-passings Constant a = λ i. record { number = r.one i; falls = 0; stays = true } ∷ []
  sent-passings Plain a = λ i. record { number = r.one i; falls = 0; stays = true } ∷ []
  sent-passings (Differential on) a = λ i. record { number = r.one i; falls = 0; stays = true } ∷ record { number = sent-of_nat K L f r a i; falls = 1; stays = false } ∷ []
  sent-passings (Shift on step) a = sent-shift _ _ (sent-of_nat K L f r step) a
  sent-passings (Delay on step) a = sent-shift _ _ (r.minus _ ∙ ap L.minus (sent-of_nat K L f r step)) a

  module _ (s : Signature) where
    sent-letter : (x : ℕ) (m : Monomial) → sent (letter K s x m) ≡ letter L s x m
    unfolding letter sent_passing
    sent-letter x m =
        collect-sent _ ∙ ap (collect L plain_cmp) (over (passings K (kind_at s x) (exponent m (coordinate_of (kind_at s x)))) ∙ ap (map (λ p. (cond p.stays (raise x (lower (coordinate_of (kind_at s x)) p.falls m)) (lower (coordinate_of (kind_at s x)) p.falls m), p.number))) (sent-passings (kind_at s x) (exponent m (coordinate_of (kind_at s x)))))
      where
        over : (ps : List (Passing K)) → sent_terms K L f (map (λ p. (cond p.stays (raise x (lower (coordinate_of (kind_at s x)) p.falls m)) (lower (coordinate_of (kind_at s x)) p.falls m), p.number)) ps)
            ≡ map (λ p. (cond p.stays (raise x (lower (coordinate_of (kind_at s x)) p.falls m)) (lower (coordinate_of (kind_at s x)) p.falls m), p.number)) (map sent_passing ps)
        over [] = refl
        over (p ∷ ps) = ap (λ us. (cond p.stays (raise x (lower (coordinate_of (kind_at s x)) p.falls m)) (lower (coordinate_of (kind_at s x)) p.falls m), f p.number) ∷ us) (over ps)

    letter_times-sent : (x : ℕ) (g : Operator K) → sent (letter_times K s x g) ≡ letter_times L s x (sent g)
    unfolding letter_times
    letter_times-sent x g = sent-extend (letter K s x) (letter L s x) (sent-letter x) g

    power_times-sent : (x n : ℕ) (g : Operator K) → sent (power_times K s x n g) ≡ power_times L s x n (sent g)
    unfolding power_times
    power_times-sent x zero g = refl
    power_times-sent x (suc n) g = letter_times-sent x _ ∙ ap (letter_times L s x) (power_times-sent x n g)

    letters_times-sent : (x : ℕ) (es : List ℕ) (g : Operator K) → sent (letters_times K s x es g) ≡ letters_times L s x es (sent g)
    unfolding letters_times
    letters_times-sent x [] g = refl
    letters_times-sent x (a ∷ es) g = power_times-sent x a _ ∙ ap (power_times L s x a) (letters_times-sent (suc x) es g)

    pub monomial_times-sent : (m : Monomial) (g : Operator K) → sent (monomial_times K s m g) ≡ monomial_times L s m (sent g)
    unfolding monomial_times
    monomial_times-sent m g = letters_times-sent 0 m.exponents g

pub wholes : IsRingMap integers rationals whole
wholes = record { zero = refl; one = refl; plus = whole-add; times = whole-mul; minus = whole-neg }

-- the whole numbers of a product of monomials are its coefficients over the fractions
pub numbers_are : (s : Signature) (m n : Monomial) → collect rationals plain_cmp (map (λ k. (k.0, whole k.1)) (numbers s m n)) ≡ monomial_times rationals s m (single rationals plain_cmp n (whole (pos 1)))
unfolding numbers
numbers_are s m n =
    sym (collect-sent integers rationals whole wholes _)
    ∙ ap (sent integers rationals whole wholes) (collect-falling_over integers s.order (monomial_times integers s m (single integers plain_cmp n (pos 1))))
    ∙ monomial_times-sent integers rationals whole wholes s m _
    ∙ ap (monomial_times rationals s m) (sent-single integers rationals whole wholes n (pos 1))
