use Rattle.ore_text.specs.Printable.{IsStorable}
use Rattle.ore_cert.proofs.StorableParts.{all_more}
use Rattle.ore_cert.proofs.storable.each_entry.Goals as goal

pub loop-k-preserved : goal.loop-k-preserved
loop-k-preserved c = all_more (λ f. IsStorable f.sum) c.args.row.now c.loop-k.k c.entry.result.now c.entry.ensures c.operator_is_storable.ensures c.loop-k.invariant
