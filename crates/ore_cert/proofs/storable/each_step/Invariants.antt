use Rattle.std.proofs.Common.{take}
use Rattle.std.specs.List.{All}
use Rattle.ore_cert.specs.Storable.{IsStorableStep}
use Rattle.ore_cert.proofs.storable.each_step.Given as goal

abbrev pub invariant-loop-k : goal.invariant-loop-k
invariant-loop-k l = All IsStorableStep (take l.k l.steps)
