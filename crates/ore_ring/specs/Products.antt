-- What the code of products asks.
--     AreWhole    whole numbers in the range of a numerator
use Rattle.std.specs.Prelude.{List, ℤ}
use Rattle.std.specs.List.{All}
use Rattle.ore_monomial.specs.Monomial.{Monomial}
use Rattle.ore_rational.specs.Range.{InRange}

abbrev pub AreWhole : List (Monomial × ℤ) → Type 0
AreWhole ks = All (λ k. InRange k.1) ks
