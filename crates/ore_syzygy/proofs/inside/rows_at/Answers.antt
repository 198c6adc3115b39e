use Rattle.std.proofs.Common.{rules}
use Rattle.std.proofs.lemmas.Option.{slice_get-get_or}
use Rattle.ore_rational.specs.Field.{rationals}
use Rattle.ore_rows.specs.Rows.{zero_row}
use Rattle.ore_pairs.specs.RunBlocks.{row_from}
use Rattle.ore_blocks.specs.BlockOfRun.{ordered_row}
use Rattle.ore_syzygy.proofs.Loops.{mapped_more}
use Rattle.ore_syzygy.proofs.inside.rows_at.Goals as goal

pub loop-k-preserved : goal.loop-k-preserved
loop-k-preserved g c =
    let s = g.R.OreRing.sig c.args.ring.now in
    let given = c.args.given.now in
    record {
      made = mapped_more (row_from c.args.origins.now given.rows (ordered_row s.order (zero_row rationals given.cols))) c.args.places.now c.loop-k.out.items _ c.loop-k.k _ c.in_ok-row_at.field-0 c.loop-k.invariant.made (slice_get-get_or c.args.places.now c.loop-k.k _ c.loop-k-test.true) c.in_ok-row_at.ensures.value c.in_ok-push.ensures.items;
      wide = search rules;
    }
