-- Operators of a signature.
--     OperatorOf    an operator has no exponent past the declared variables
--     Belongs       and a stored operator also carries the signature's order
--     AllBelong     each of some stored operators does so
use Rattle.std.specs.Prelude.{◌≡◌, ◌≢◌, List}
use Rattle.std.specs.List.{All}
use Rattle.ore_algebra.specs.Domain.{Domain}
use Rattle.ore_algebra.specs.Free.{coefficient}
use Rattle.ore_rational.specs.Field.{rationals}
use Rattle.ore_monomial.specs.Monomial.{Monomial, plain_cmp}
use Rattle.ore_monomial.specs.Signature.{Signature, MonomialOf}
use Rattle.ore_monomial.specs.LetterRule.{Operator}
use Rattle.ore_ring.specs.Ordered.{Ordered}

-- each monomial with a coefficient is of the signature
abbrev pub OperatorOf : (K : Domain) → Signature → Operator K → Type 0
OperatorOf K s f = (m : Monomial) → coefficient K plain_cmp f m ≢ K.zero → MonomialOf s m

pub record Belongs (s : Signature) (f : Ordered) : Type 0 where
  pub order : f.by ≡ s.order
  pub variables : OperatorOf rationals s f.sum

-- each of some operators, as those of a row, belongs to the signature
abbrev pub AllBelong : Signature → List Ordered → Type 0
AllBelong s = All (Belongs s)
