use Rattle.std.proofs.Common.{ℕ, ◌<◌, ◌≤◌}
use Rattle.ore_monomial.specs.Monomial.{exponent, lcm}
use Rattle.ore_pairs.proofs.rule.divides_lcm.Given as goal

abbrev pub invariant-loop-k : goal.invariant-loop-k
invariant-loop-k l = (x : ℕ) → x < l.k → exponent l.exps x ≤ exponent (lcm l.first l.second) x
