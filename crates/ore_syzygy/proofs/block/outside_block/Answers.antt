use Rattle.std.proofs.Common.{refl}
use Rattle.ore_syzygy.proofs.HonestBlocks.{outside_is}
use Rattle.ore_syzygy.proofs.block.outside_block.Goals as goal

pub returns-clause-value : goal.returns-clause-value
returns-clause-value g c = λ a choices h.
    outside_is (g.R.OreRing.sig c.args.ring.now) c.args.run a choices h c.args.reduced.now.steps c.args.reduced.now.row c.requires.rest_of _
    c.in_ok-basis_rows.ensures.rows refl c.in_ok-pairs.ensures c.in_ok-quotients.ensures c.in_ok-rest.ensures.same
