use Rattle.std.proofs.Common.{take}
use Rattle.std.specs.List.{All}
use Rattle.ore_cert.specs.Storable.{IsStorableRow}
use Rattle.ore_cert.proofs.storable.each_row.Given as goal

abbrev pub invariant-loop-k : goal.invariant-loop-k
invariant-loop-k l = All IsStorableRow (take l.k l.matrix.rows)
