use Rattle.ore_blocks.specs.CheckBlock.{row_matrix_of}
use Rattle.ore_blocks.proofs.Refusals.{judged_at}
use Rattle.ore_blocks.proofs.TransposedAdjoints.{adjoint_gives}
use Rattle.ore_check.proofs.formed.transposed_adjoint.Goals as goal

pub returns-clause-judges : goal.returns-clause-judges
returns-clause-judges g c =
    let s = g.R.OreRing.sig c.args.ring.now in
    judged_at c.args.place row_matrix_of c.transpose_adjoint.result c.at_place.result _ c.at_place.ensures (adjoint_gives s c.args.m.now c.transpose_adjoint.result c.transpose_adjoint.ensures.cols c.transpose_adjoint.ensures.gives)
