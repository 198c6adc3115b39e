use Rattle.std.proofs.Common.{◌≡◌, map, take}
use Rattle.ore_rational.specs.Field.{rationals}
use Rattle.ore_rows.specs.Rows.{zero_row}
use Rattle.ore_rows.specs.Stored.{HasColumns}
use Rattle.ore_pairs.specs.RunBlocks.{row_from}
use Rattle.ore_blocks.specs.BlockOfRun.{ordered_row}
use Rattle.ore_syzygy.proofs.inside.rows_at.Given as goal

abbrev pub invariant-loop-k : goal.invariant-loop-k
invariant-loop-k g l = record {
  made : l.out.items ≡ map (row_from l.origins l.given.rows (ordered_row (g.R.OreRing.sig l.ring).order (zero_row rationals l.given.cols))) (take l.k l.places);
  wide : HasColumns l.given.cols l.out.items;
}
