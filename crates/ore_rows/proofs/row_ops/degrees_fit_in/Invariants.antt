use Rattle.std.proofs.Common.{take}
use Rattle.std.specs.List.{All}
use Rattle.ore_rows.specs.RowsWithin.{HasDegrees}
use Rattle.ore_rows.proofs.row_ops.degrees_fit_in.Given as goal

abbrev pub invariant-loop-g : goal.invariant-loop-g
invariant-loop-g g l = All (λ f. HasDegrees (g.R.OreRing.sig l.ring) l.f.sum f.sum) (take l.g-index l.row)
