use Rattle.ore_cert.specs.Storable.{IsStorableEntry}
use Rattle.ore_cert.proofs.StorableParts.{all_more}
use Rattle.ore_cert.proofs.storable.each_pair.Goals as goal

pub loop-k-preserved : goal.loop-k-preserved
loop-k-preserved c = all_more IsStorableEntry c.args.pairs.now c.loop-k.k c.get.result.now c.get.ensures c.entry_is_storable.ensures c.loop-k.invariant
