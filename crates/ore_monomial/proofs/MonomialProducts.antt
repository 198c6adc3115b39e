-- One monomial times an operator.
--     monomial-linear      it is a linear map
--     monomial_unit        the unit changes nothing
--     monomial-raise       one more of a variable before all others is that letter in front
--     letter_first         a letter times a monomial that has nothing before it
use Rattle.std.proofs.Common.{◌≡◌, ℕ, zero, suc, ◌+◌, ◌<◌, Bool, true, false, List, [], ◌∷◌, length, get_or, set, replicate, refl, sym, ap, ◌∙◌, subst, arith}
use native.Mathlib.Nat
use Rattle.ore_algebra.specs.Domain.{Domain}
use Rattle.ore_monomial.specs.Monomial.{Monomial, exponent, with_exponent, raise, unit, plain_cmp}
use Rattle.ore_monomial.specs.Signature.{Signature, kind_at, is_acting, IsLawful}
use Rattle.ore_monomial.specs.LetterRule.{Operator, letter, letter_times, power_times, letters_times, monomial_times}
use Rattle.ore_algebra.proofs.Linear.{IsLinear}
use Rattle.ore_monomial.proofs.Monomials.{IsBelow}
use Rattle.ore_monomial.proofs.Letters.{one_term}
use Rattle.ore_monomial.proofs.Commute.{letter-linear, letter_still, letter_clear}
use Rattle.ore_monomial.proofs.Operators

module _ (K : Domain) (s : Signature) where
  power-linear : (x n : ℕ) → IsLinear K plain_cmp (power_times K s x n)
  unfolding power_times
  power-linear x zero = Operators.linear_itself K
  power-linear x (suc n) = Operators.linear_after K (letter-linear K s x) (power-linear x n)

  letters-linear : (x : ℕ) (es : List ℕ) → IsLinear K plain_cmp (letters_times K s x es)
  unfolding letters_times
  letters-linear x [] = Operators.linear_itself K
  letters-linear x (a ∷ es) = Operators.linear_after K (power-linear x a) (letters-linear (suc x) es)

  pub monomial-linear : (m : Monomial) → IsLinear K plain_cmp (monomial_times K s m)
  unfolding monomial_times
  monomial-linear m = letters-linear 0 m.exponents

  letters_none : (x n : ℕ) (g : Operator K) → letters_times K s x (replicate n 0) g ≡ g
  unfolding letters_times power_times
  letters_none x zero g = refl
  letters_none x (suc n) g = letters_none (suc x) n g

  pub monomial_unit : (g : Operator K) → monomial_times K s unit g ≡ g
  unfolding monomial_times unit
  monomial_unit g = letters_none 0 12 g

  -- one more of the first letter is that letter times what stood there
  letters_set : (es : List ℕ) (x j : ℕ) (g : Operator K) → j < length es → ((y : ℕ) → y < j → get_or es y 0 ≡ 0) → letters_times K s x (set es j (suc (get_or es j 0))) g ≡ letter_times K s (x + j) (letters_times K s x es g)
  unfolding letters_times power_times
  letters_set [] x j g h b = absurd (omega arith)
  letters_set (a ∷ es) x zero g h b = ap (λ y. letter_times K s y (power_times K s x a (letters_times K s (suc x) es g))) (sym (Nat.add-zero x))
  letters_set (a ∷ es) x (suc j) g h b =
      let e : suc x + j ≡ x + suc j = omega arith in
      ap (λ n. power_times K s x n (letters_times K s (suc x) (set es j (suc (get_or es j 0))) g)) (b 0 (omega arith))
      ∙ letters_set es (suc x) j g (omega arith) (λ y l. b (suc y) (omega arith))
      ∙ (λ i. letter_times K s (e i) (power_times K s x (sym (b 0 (omega arith)) i) (letters_times K s (suc x) es g)))

  pub monomial-raise : (x : ℕ) (m : Monomial) (g : Operator K) → x < 12 → IsBelow x m → monomial_times K s (raise x m) g ≡ letter_times K s x (monomial_times K s m g)
  unfolding monomial_times with_exponent exponent
  monomial-raise x m g h b = letters_set m.exponents 0 x g (subst (λ n. x < n) (sym m.twelve) h) b ∙ ap (λ y. letter_times K s y (letters_times K s 0 m.exponents g)) (Nat.zero-add x)

module _ (K : Domain) (s : Signature) (lawful : IsLawful s) where
  -- a letter before all that a monomial has
  pub letter_first : (x : ℕ) (m : Monomial) → IsBelow x m → letter K s x m ≡ one_term K (raise x m)
  letter_first x m b = by (is_acting (kind_at s x)) refl
    where
      by : (c : Bool) → is_acting (kind_at s x) ≡ c → letter K s x m ≡ one_term K (raise x m)
      by true h = letter_clear K s x m (b _ (lawful x h).0)
      by false h = letter_still K s x m h
