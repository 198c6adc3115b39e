use Rattle.std.proofs.Common.{◌≡◌, ◌≢◌, ℕ, ◌<◌, true}
use Rattle.ore_monomial.specs.Monomial.{exponent}
use Rattle.ore_monomial.specs.Signature.{kind_at, coordinate_of, is_acting}
use Rattle.ore_ring.proofs.meet.meets_none.Given as goal

abbrev pub invariant-loop-x : goal.invariant-loop-x
invariant-loop-x l = (k : ℕ) → k < l.x → is_acting (kind_at l.sig k) ≡ true → exponent l.left k ≢ 0 → exponent l.right (coordinate_of (kind_at l.sig k)) ≡ 0
