use Rattle.std.proofs.Common.{◌≡◌, take}
use Rattle.ore_rows.specs.Stored.{HasColumns}
use Rattle.ore_syzygy.proofs.copies.matrix_copy.Given as goal

abbrev pub invariant-loop-k : goal.invariant-loop-k
invariant-loop-k g l = record { copied : l.out.items ≡ take l.k (l.m.rows); wide : HasColumns l.m.cols l.out.items }
