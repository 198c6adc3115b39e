use Rattle.std.proofs.Common.{◌≡◌, ◌+◌, ◌-◌, ◌≤◌, drop, length}
use Rattle.ore_algebra.specs.Limits.{program}
use Rattle.ore_algebra.specs.Results.{fronted}
use Rattle.ore_ring.specs.Merge.{merge_within, opposite_terms}
use Rattle.ore_ring.proofs.merge.merged_less.Given as goal

abbrev pub invariant-loop-i : goal.invariant-loop-i
invariant-loop-i l = record {
  first : l.i ≤ length l.a;
  second : l.j ≤ length l.b;
  whole : fronted l.out.items (merge_within program l.order (drop l.i l.a) (drop l.j (opposite_terms l.b))) ≡ merge_within program l.order l.a (opposite_terms l.b);
}

abbrev pub decreases-loop-i : goal.decreases-loop-i
decreases-loop-i l = (length l.a - l.i) + (length l.b - l.j)
