-- Monomials whose letters meet no coordinate on which they act.
--     MeetsNone    no letter of the left monomial acts on a coordinate of the right one
use Rattle.std.specs.Prelude.{◌≡◌, ◌≢◌, ℕ, true}
use Rattle.ore_monomial.specs.Monomial.{Monomial, exponent}
use Rattle.ore_monomial.specs.Signature.{Signature, kind_at, coordinate_of, is_acting}

-- each acting letter of the left monomial has a coordinate that isn't in the right one
abbrev pub MeetsNone : Signature → Monomial → Monomial → Type 0
MeetsNone s m n = (x : ℕ) → is_acting (kind_at s x) ≡ true → exponent m x ≢ 0 → exponent n (coordinate_of (kind_at s x)) ≡ 0
