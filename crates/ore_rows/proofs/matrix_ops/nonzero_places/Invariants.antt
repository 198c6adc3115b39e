use Rattle.std.proofs.Common.{◌<◌, length}
use Rattle.std.specs.List.{All}
use Rattle.ore_rows.specs.Stored.{sums_of}
use Rattle.ore_rows.proofs.NonzeroPlaces.{SoFar}
use Rattle.ore_rows.proofs.matrix_ops.nonzero_places.Given as goal

abbrev pub invariant-loop-k : goal.invariant-loop-k
invariant-loop-k l = record {
  so_far : SoFar l.out.items l.k (sums_of l.c);
  inside : All (λ k. k < length l.c) l.out.items;
}
