use Rattle.ore_cert.specs.Storable.{IsStorableLink}
use Rattle.ore_cert.proofs.StorableParts.{all_more}
use Rattle.ore_cert.proofs.storable.links_are_storable.Goals as goal

pub loop-k-preserved : goal.loop-k-preserved
loop-k-preserved c = all_more IsStorableLink c.args.links.now c.loop-k.k c.get.result.now c.get.ensures c.link_is_storable.ensures c.loop-k.invariant
