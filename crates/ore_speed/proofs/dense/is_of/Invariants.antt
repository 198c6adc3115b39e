use Rattle.std.proofs.Common.{◌≡◌, ◌<◌, ◌≤◌, length, ℕ}
use Rattle.ore_monomial.specs.Monomial.{exponent}
use Rattle.ore_speed.proofs.dense.is_of.Given as goal

abbrev pub invariant-loop-k : goal.invariant-loop-k
invariant-loop-k l = (x : ℕ) → length l.signature.kinds ≤ x → x < l.k → exponent l.exps x ≡ 0
