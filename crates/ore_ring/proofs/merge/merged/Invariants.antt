use Rattle.std.proofs.Common.{◌≡◌, ◌+◌, ◌-◌, ◌≤◌, drop, length}
use Rattle.ore_algebra.specs.Limits.{program}
use Rattle.ore_algebra.specs.Results.{fronted}
use Rattle.ore_ring.specs.Merge.{merge_within}
use Rattle.ore_ring.proofs.merge.merged.Given as goal

abbrev pub invariant-loop-i : goal.invariant-loop-i
invariant-loop-i l = record {
  first : l.i ≤ length l.a;
  second : l.j ≤ length l.b;
  whole : fronted l.out.items (merge_within program l.order (drop l.i l.a) (drop l.j l.b)) ≡ merge_within program l.order l.a l.b;
}

abbrev pub decreases-loop-i : goal.decreases-loop-i
decreases-loop-i l = (length l.a - l.i) + (length l.b - l.j)
