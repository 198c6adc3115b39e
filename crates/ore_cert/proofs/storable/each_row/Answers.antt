use Rattle.ore_cert.specs.Storable.{IsStorableRow}
use Rattle.ore_cert.proofs.StorableParts.{all_more}
use Rattle.ore_cert.proofs.storable.each_row.Goals as goal

pub loop-k-preserved : goal.loop-k-preserved
loop-k-preserved c = all_more IsStorableRow c.args.matrix.now.rows c.loop-k.k c.row.result.now c.row.ensures.value c.row_is_storable.ensures c.loop-k.invariant
