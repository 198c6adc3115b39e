use Rattle.std.proofs.Common.{◌≤◌, length, sym, ◌∙◌, arith}
use Rattle.std.proofs.lemmas.Result.{err_from_is_err_and}
use Rattle.ore_algebra.specs.Limits.{program}
use Rattle.ore_rows.specs.Stored.{rows_of}
use Rattle.ore_blocks.proofs.Chains.{refuses_as, passed_as}
use Rattle.ore_blocks.proofs.GivenRows.{rows_next, rows_end}
use Rattle.ore_blocks.proofs.products.rows_give.Goals as goal

pub returns-in_err-row_gives : goal.returns-in_err-row_gives
returns-in_err-row_gives g c =
    let s = g.R.OreRing.sig c.args.ring.now in
    let k = c.loop-k.k in
    let p = err_from_is_err_and c.from_residual.result c.from_residual.ensures.1 in
    rw (p.1, p.2) (refuses_as _ _ _ _ (rows_next program s c.args.reason c.args.m.now.cols (rows_of c.args.m.now) c.args.section c.args.name c.args.rows.now c.args.wanted.now k c.row.result.now c.row-in-loop-k.result.now c.row.ensures.value c.row-in-loop-k.ensures.value) c.loop-k.invariant _ c.in_err-row_gives.ensures)

pub loop-k-preserved : goal.loop-k-preserved
loop-k-preserved g c =
    let s = g.R.OreRing.sig c.args.ring.now in
    let k = c.loop-k.k in
    passed_as _ _ _ _ (rows_next program s c.args.reason c.args.m.now.cols (rows_of c.args.m.now) c.args.section c.args.name c.args.rows.now c.args.wanted.now k c.row.result.now c.row-in-loop-k.result.now c.row.ensures.value c.row-in-loop-k.ensures.value) c.loop-k.invariant tt c.in_ok-row_gives.ensures

pub returns : goal.returns
returns g c =
    let s = g.R.OreRing.sig c.args.ring.now in
    let past : length c.args.rows.now.rows ≤ c.loop-k.k = omega arith in
    sym c.loop-k.invariant ∙ rows_end program s c.args.reason c.args.m.now.cols (rows_of c.args.m.now) c.args.section c.args.name c.args.rows.now c.args.wanted.now c.loop-k.k past
