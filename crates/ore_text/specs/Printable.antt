-- What can be printed.
--     IsStorableTerm, IsStorable    the numbers and degrees of a term, of an operator, are in the program's ranges
--     IsPrintable                   an operator of the signature in these ranges, where the variables have names
use Rattle.std.specs.Prelude.{◌≡◌, ◌≤◌, ◌<◌, ◌^◌, ℕ, List, length, nat_abs}
use Rattle.std.specs.List.{AllByRecursion}
use Rattle.ore_algebra.specs.Free.{terms}
use Rattle.ore_rational.specs.Field.{rationals}
use Rattle.ore_monomial.specs.Monomial.{degree, plain_cmp}
use Rattle.ore_monomial.specs.Signature.{Signature}
use Rattle.ore_monomial.specs.LetterRule.{Operator}
use Rattle.ore_ring.specs.Belongs.{OperatorOf}
use Rattle.ore_ring.specs.Terms.{Summand}
use Rattle.ore_text.specs.Names.{AreNames}

-- numerator, without its sign, and denominator are below 2^127, and the degree is at most 32,767
pub record IsStorableTerm (t : Summand) : Type 0 where
  pub numerator : nat_abs t.1.num < 2 ^ 127
  pub denominator : t.1.den < 2 ^ 127
  pub degree : degree t.0 ≤ 32767

-- each term of the operator is in these ranges
abbrev pub IsStorable : Operator rationals → Type 0
IsStorable f = AllByRecursion IsStorableTerm (terms rationals plain_cmp f)

-- there is one name for each variable, as names are declared; the operator is of the signature and in the ranges
pub record IsPrintable (s : Signature) (names : List (List ℕ)) (f : Operator rationals) : Type 0 where
  pub names_fit : AreNames names
  pub count : length names ≡ length s.kinds
  pub variables : OperatorOf rationals s f
  pub storable : IsStorable f
