use Rattle.ore_check.proofs.LinkConditions.{found_of}
use Rattle.ore_check.proofs.extensions.extension_nonzero.Goals as goal

pub transposed_adjoint-requires : goal.transposed_adjoint-requires
transposed_adjoint-requires g c = record { of = found_of (g.R.OreRing.sig c.args.ring.now) c.args.r.now c.args.links.now _ c.matrix_before-last.result.now c.matrix_before-last.ensures c.requires.of c.requires.links_of.all }

pub transposed_adjoint-requires-2 : goal.transposed_adjoint-requires-2
transposed_adjoint-requires-2 g c = record { of = found_of (g.R.OreRing.sig c.args.ring.now) c.args.r.now c.args.links.now _ c.matrix_before-before.result.now c.matrix_before-before.ensures c.requires.of c.requires.links_of.all }
