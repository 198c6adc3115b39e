use Rattle.ore_blocks.proofs.Compared.{row_told}
use Rattle.ore_blocks.proofs.equal.are_same.Goals as goal

pub returns : goal.returns
returns g c = row_told (g.R.OreRing.sig c.args.ring.now) c.args.a.now c.args.b.now c.has_same_entries.result c.requires.a_of c.requires.b_of c.has_same_entries.ensures
