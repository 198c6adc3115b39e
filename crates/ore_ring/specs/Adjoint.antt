-- The adjoint of an operator.
-- (Formal adjoints: Chyzak, Quadrat and Robertz 2005. One involution for all kinds of letters is this project's own.)
--     sign                     -1 for a coordinate, 1 for any other letter
--     adjoint_letter_times     the adjoint of a letter, times an operator
--     adjoint_monomial         the product of the adjoints of a monomial's letters, in reverse order
--     adjoint                  the same for each term of an operator
--     adjoint_power_times, adjoint_letters_times  the same for a power of a letter; for the letters from one on
use Rattle.std.specs.Prelude.{ℕ, zero, suc, List, [], ◌∷◌}
use Rattle.ore_algebra.specs.Domain.{Domain}
use Rattle.ore_algebra.specs.Free.{single, scale, linear_extension}
use Rattle.ore_monomial.specs.Monomial.{Monomial, unit, plain_cmp}
use Rattle.ore_monomial.specs.Signature.{Signature, kind_at}
use Rattle.ore_monomial.specs.declared.signature.VarKind.{VarKind}
use Rattle.ore_monomial.specs.declared.signature.VarKind.TheVariants.{Coordinate}
use Rattle.ore_monomial.specs.LetterRule.{Operator, letter_times}

-- the adjoint of a coordinate is its negative, and of any other letter the letter
unfoldable pub sign : (K : Domain) → VarKind → K.Number
sign K Coordinate = K.minus K.one
sign K kind = K.one

module _ (K : Domain) (s : Signature) where
  -- the adjoint of a letter, times an operator
  unfoldable pub adjoint_letter_times : ℕ → Operator K → Operator K
  adjoint_letter_times x f = scale K plain_cmp (sign K (kind_at s x)) (letter_times K s x f)

  unfoldable pub adjoint_power_times : ℕ → ℕ → Operator K → Operator K
  adjoint_power_times x zero f = f
  adjoint_power_times x (suc n) f = adjoint_letter_times x (adjoint_power_times x n f)

  -- the adjoints of the letters from x on, in reverse order, times an operator: the first letter first
  unfoldable pub adjoint_letters_times : ℕ → List ℕ → Operator K → Operator K
  adjoint_letters_times x [] f = f
  adjoint_letters_times x (a ∷ es) f = adjoint_letters_times (suc x) es (adjoint_power_times x a f)

  unfoldable pub adjoint_monomial : Monomial → Operator K
  adjoint_monomial m = adjoint_letters_times 0 m.exponents (single K plain_cmp unit K.one)

  unfoldable pub adjoint : Operator K → Operator K
  adjoint f = linear_extension K plain_cmp adjoint_monomial f
