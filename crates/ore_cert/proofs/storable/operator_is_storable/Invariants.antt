use Rattle.std.proofs.Common.{take}
use Rattle.std.specs.List.{All}
use Rattle.ore_ring.specs.Terms.{falling}
use Rattle.ore_text.specs.Printable.{IsStorableTerm}
use Rattle.ore_cert.proofs.storable.operator_is_storable.Given as goal

abbrev pub invariant-loop-k : goal.invariant-loop-k
invariant-loop-k l = All IsStorableTerm (take l.k (falling l.op.by l.op.sum))
