use Rattle.std.proofs.Common.{take}
use Rattle.std.specs.List.{All}
use Rattle.ore_text.specs.Printable.{IsStorable}
use Rattle.ore_cert.proofs.storable.each_entry.Given as goal

abbrev pub invariant-loop-k : goal.invariant-loop-k
invariant-loop-k l = All (λ f. IsStorable f.sum) (take l.k l.row)
