use Rattle.std.proofs.Common.{◌≡◌, drop}
use Rattle.ore_algebra.specs.Limits.{program, fold_within}
use Rattle.ore_ring.specs.Contributions.{push_number}
use Rattle.ore_ring.proofs.multiply.push_numbers.Given as goal

abbrev pub invariant-loop-k : goal.invariant-loop-k
invariant-loop-k l = fold_within (push_number program l.uv) l.out.items (drop l.k-index l.ks) ≡ fold_within (push_number program l.uv) l.initial.out.items l.ks
