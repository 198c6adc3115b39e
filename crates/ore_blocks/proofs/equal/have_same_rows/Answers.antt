use Rattle.ore_blocks.proofs.Compared.{rows_told}
use Rattle.ore_blocks.proofs.equal.have_same_rows.Goals as goal

pub returns : goal.returns
returns g c = rows_told (g.R.OreRing.sig c.args.ring.now) c.args.a.now c.args.b.now c.has_same_rows.result c.requires.a_of c.requires.b_of c.has_same_rows.ensures
