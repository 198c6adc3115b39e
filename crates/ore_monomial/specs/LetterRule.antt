-- The letter rule: one letter times one ordered monomial, and one monomial times an operator. A letter passes over the
-- power of its coordinate, and then its own exponent is raised by one where it stays.
-- (Ore 1933; for several variables Chyzak and Salvy 1998.)
--     Operator             a sum of terms over monomials in the plain order
--     constant             a number as an operator
--     letter, letter_times      one letter times a monomial, and times an operator
--     power_times, letters_times    a power of a letter, and letters in declared order, times an operator
--     monomial_times       a monomial times an operator
use Rattle.std.specs.Prelude.{ℕ, zero, suc, cond, List, [], ◌∷◌, map}
use Rattle.ore_algebra.specs.Domain.{Domain}
use Rattle.ore_algebra.specs.Free.{Free, single, linear_extension, collect}
use Rattle.ore_monomial.specs.Monomial.{Monomial, unit, exponent, raise, lower, plain_cmp}
use Rattle.ore_monomial.specs.Signature.{Signature, kind_at, coordinate_of}
use Rattle.ore_monomial.specs.Passing.{passings}

-- an operator is a finite sum of terms, with the plain order among its monomials
abbrev pub Operator : Domain → Type 0
Operator K = Free K plain_cmp

-- k times the monomial 1
abbrev pub constant : (K : Domain) → K.Number → Operator K
constant K k = single K plain_cmp unit k

module _ (K : Domain) (s : Signature) where
  -- one letter times one monomial: the sum of the terms of its passing
  unfoldable pub letter : ℕ → Monomial → Operator K
  letter x m =
      let t = coordinate_of (kind_at s x) in
      collect K plain_cmp (map (λ p. (cond p.stays (raise x (lower t p.falls m)) (lower t p.falls m), p.number)) (passings K (kind_at s x) (exponent m t)))

  -- one letter times an operator
  unfoldable pub letter_times : ℕ → Operator K → Operator K
  letter_times x f = linear_extension K plain_cmp (letter x) f

  -- n times the same letter
  unfoldable pub power_times : ℕ → ℕ → Operator K → Operator K
  power_times x zero f = f
  power_times x (suc n) f = letter_times x (power_times x n f)

  -- the letters from x on, with these exponents, times an operator: the last letter first
  unfoldable pub letters_times : ℕ → List ℕ → Operator K → Operator K
  letters_times x [] f = f
  letters_times x (a ∷ es) f = power_times x a (letters_times (suc x) es f)

  -- one monomial times an operator
  unfoldable pub monomial_times : Monomial → Operator K → Operator K
  monomial_times m f = letters_times 0 m.exponents f
