use Rattle.std.proofs.Common.{refl, sym, ◌∙◌}
use Rattle.ore_syzygy.proofs.RunKernels.{matrix_of}
use Rattle.ore_syzygy.proofs.ValidBlocks.{exact_of_signature}
use Rattle.ore_syzygy.proofs.HonestBlocks.{exact_is, many_origins}
use Rattle.ore_syzygy.proofs.block.syzygies_with_block.Goals as goal

pub inside_rows-requires : goal.inside_rows-requires
inside_rows-requires g c =
    let run = c.requires.run in
    many_origins (g.R.OreRing.sig c.args.ring.now) c.args.run run.matrix run.choices run.honest run.matrix_of ∙ sym c.requires.count

pub returns-clause-value : goal.returns-clause-value
returns-clause-value g c = λ a choices h.
    exact_is (g.R.OreRing.sig c.args.ring.now) c.args.run a choices h c.args.inside_of c.requires.inside_of _
    c.in_ok-rows.ensures.rows refl c.in_ok-rows.ensures.cofactors c.in_ok-pairs.ensures (c.in_ok-inside.ensures.value _)

pub returns-clause-of : goal.returns-clause-of
returns-clause-of g c =
    let s = g.R.OreRing.sig c.args.ring.now in
    let run = c.requires.run in
    let inside = c.args.inside_of in
    exact_of_signature s c.args.run run inside (matrix_of s inside c.cols-fits.result c.cols-fits.ensures.fits c.cols-fits.ensures.value c.requires.inside_of) c.requires.count _
    (returns-clause-value g c run.matrix run.choices run.honest)
