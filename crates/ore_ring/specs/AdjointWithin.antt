-- The adjoint of an operator that stops at limits.
--     kept_exponents        the exponents of the variables that pass a test, with 0 for the others
--     part                  the monomial of these
--     coordinate_part       the part of a monomial in the coordinates
--     letter_part           the part in the other letters: the monomial is the first times the second
--     sign_of               the sign of a monomial's adjoint: -1 to the degree in the coordinates
--     adjoint_term_within   the contributions of one term
--     adjoint_within        an adjoint
use Rattle.std.specs.Prelude.{ℕ, suc, Bool, not, cond, List, [], ◌∷◌}
use Rattle.std.specs.declared.result.Result.{Result}
use Rattle.ore_algebra.specs.Domain.{Domain}
use Rattle.ore_algebra.specs.Free.{empty_sum}
use Rattle.ore_algebra.specs.Limits.{Limits, Cause, ◌>>=◌, fold_within}
use Rattle.ore_algebra.specs.Ring.{power}
use Rattle.ore_rational.specs.Fraction.{mul}
use Rattle.ore_rational.specs.Field.{rationals}
use Rattle.ore_monomial.specs.Monomial.{Monomial, monomial_of, degree, plain_cmp}
use Rattle.ore_monomial.specs.Signature.{Signature, kind_at, is_coordinate}
use Rattle.ore_monomial.specs.LetterRule.{Operator}
use Rattle.ore_ring.specs.Terms.{Summand, falling}
use Rattle.ore_monomial.specs.Numbers.{numbers, numbers_within}
use Rattle.ore_ring.specs.Within.{contribute}

-- these are the exponents of the variables from x on
unfoldable pub kept_exponents : (ℕ → Bool) → ℕ → List ℕ → List ℕ
kept_exponents test x [] = []
kept_exponents test x (e ∷ es) = cond (test x) e 0 ∷ kept_exponents test (suc x) es

unfoldable pub part : (ℕ → Bool) → Monomial → Monomial
part test m = monomial_of (kept_exponents test 0 m.exponents)

module _ (s : Signature) where
  abbrev pub coordinate_part : Monomial → Monomial
  coordinate_part = part (λ x. is_coordinate (kind_at s x))

  abbrev pub letter_part : Monomial → Monomial
  letter_part = part (λ x. not (is_coordinate (kind_at s x)))

-- the adjoint of each coordinate of m is its negative
unfoldable pub sign_of : (K : Domain) → Signature → Monomial → K.Number
sign_of K s m = power K.ring (K.minus K.one) (degree (coordinate_part s m))

module _ (l : Limits) (s : Signature) where
  -- a term gives its letters times its coordinates, which reverses the monomial, with the sign and its fraction
  unfoldable pub adjoint_term_within : Operator rationals → Summand → Result (Operator rationals) Cause
  adjoint_term_within acc t = do
    ks ← numbers_within l (numbers s (letter_part s t.0) (coordinate_part s t.0))
    fold_within (contribute l (mul (sign_of rationals s t.0) t.1)) acc ks

  -- the terms in turn
  unfoldable pub adjoint_within : Operator rationals → Result (Operator rationals) Cause
  adjoint_within f = fold_within adjoint_term_within (empty_sum rationals plain_cmp) (falling s.order f)
