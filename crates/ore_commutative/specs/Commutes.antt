-- Signatures in which all variables commute.
--     Commutes     no variable is a differential operator, a shift or a delay
use Rattle.std.specs.Prelude.{◌≡◌, ℕ, false}
use Rattle.ore_monomial.specs.Signature.{Signature, kind_at, is_acting}

-- Only differential operators, shifts and delays act on a coordinate, so where none is declared any two variables commute.
abbrev pub Commutes : Signature → Type 0
Commutes s = (x : ℕ) → is_acting (kind_at s x) ≡ false
