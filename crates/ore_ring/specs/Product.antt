-- The product of operators.
-- (Ore 1933.)
--     times      the sum over the terms of the first operator: the coefficient times the monomial times the second operator
use Rattle.ore_algebra.specs.Domain.{Domain}
use Rattle.ore_algebra.specs.Free.{linear_extension}
use Rattle.ore_monomial.specs.Monomial.{plain_cmp}
use Rattle.ore_monomial.specs.Signature.{Signature}
use Rattle.ore_monomial.specs.LetterRule.{Operator, monomial_times}

module _ (K : Domain) (s : Signature) where
  unfoldable pub times : Operator K → Operator K → Operator K
  times f g = linear_extension K plain_cmp (λ m. monomial_times K s m g) f
