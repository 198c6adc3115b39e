use Rattle.std.proofs.Common.{ap, ◌∙◌}
use Rattle.std.proofs.lemmas.Result.{IfOk-weaker}
use Rattle.ore_rational.specs.Field.{rationals}
use Rattle.ore_rows.specs.Rows.{identity_rows}
use Rattle.ore_kernels.proofs.FollowedPlans.{block_is}
use Rattle.ore_kernels.proofs.block.kernel_block.Goals as goal

pub returns-clause-value : goal.returns-clause-value
returns-clause-value g c =
    let s = g.R.OreRing.sig c.args.ring.now in
    let f = c.args.run in
    let units = c.in-Ok.units in
    let e = c.in-Ok.ensures in
    let count = c.rows.ensures.value in
    IfOk-weaker c.syzygies_with_block.result _ _ (λ p h. block_is s f units (e.cols ∙ count) (e.rows ∙ ap (identity_rows rationals) count) p.1 h) c.syzygies_with_block.ensures.value
