use Rattle.ore_check.proofs.LinkConditions.{found_of}
use Rattle.ore_check.proofs.extensions.extension_zero.Goals as goal

pub adjoints_of-requires-clause-before_of : goal.adjoints_of-requires-clause-before_of
adjoints_of-requires-clause-before_of g c = found_of (g.R.OreRing.sig c.args.ring.now) c.args.r.now c.args.links.now _ c.matrix_before-before.result.now c.matrix_before-before.ensures c.requires.of c.requires.links_of.all

pub adjoints_of-requires-clause-last_of : goal.adjoints_of-requires-clause-last_of
adjoints_of-requires-clause-last_of g c = found_of (g.R.OreRing.sig c.args.ring.now) c.args.r.now c.args.links.now _ c.matrix_before-last.result.now c.matrix_before-last.ensures c.requires.of c.requires.links_of.all
