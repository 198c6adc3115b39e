use Rattle.std.proofs.Common.{take}
use Rattle.std.specs.List.{All}
use Rattle.ore_cert.specs.Storable.{IsStorableEntry}
use Rattle.ore_cert.proofs.storable.each_pair.Given as goal

abbrev pub invariant-loop-k : goal.invariant-loop-k
invariant-loop-k l = All IsStorableEntry (take l.k l.pairs)
