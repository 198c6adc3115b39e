use Rattle.std.proofs.Common.{take}
use Rattle.std.specs.List.{All}
use Rattle.ore_cert.specs.Storable.{IsStorableLink}
use Rattle.ore_cert.proofs.storable.links_are_storable.Given as goal

abbrev pub invariant-loop-k : goal.invariant-loop-k
invariant-loop-k l = All IsStorableLink (take l.k l.links)
