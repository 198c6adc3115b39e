use Rattle.std.proofs.Common.{◌≡◌, length}
use Rattle.ore_rational.specs.Field.{rationals}
use Rattle.ore_rows.specs.Rows.{zero_row}
use Rattle.ore_blocks.specs.BlockOfRun.{ordered_row}
use Rattle.ore_syzygy.proofs.inside.zero_row.Given as goal

abbrev pub invariant-loop-k : goal.invariant-loop-k
invariant-loop-k l = record { zeros : l.out.items ≡ ordered_row l.sig.order (zero_row rationals l._k); wide : length l.out.items ≡ l._k }
