use Rattle.std.proofs.Common.{◌≡◌, ℕ, ◌<◌, false}
use Rattle.ore_monomial.specs.Signature.{kind_at, is_acting}
use Rattle.ore_commutative.proofs.commutes.Given as goal

abbrev pub invariant-loop-x : goal.invariant-loop-x
invariant-loop-x l = (k : ℕ) → k < l.x → is_acting (kind_at l.signature k) ≡ false
