use Rattle.ore_blocks.proofs.MonicLeads.{zero_told}
use Rattle.ore_blocks.proofs.monic.is_zero.Goals as goal

pub returns : goal.returns
returns c = zero_told c.args.sig.now.order c.args.row.now c.is_zero.result c.is_zero.ensures
