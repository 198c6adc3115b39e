use Rattle.std.proofs.Common.{◌≤◌, length, sym, ◌∙◌, arith}
use Rattle.std.proofs.lemmas.Result.{err_from_is_err_and}
use Rattle.ore_algebra.specs.Limits.{program}
use Rattle.ore_rows.specs.Stored.{rows_of}
use Rattle.ore_blocks.proofs.Chains.{refuses_as, passed_as}
use Rattle.ore_blocks.proofs.InsideRows.{rows_next, rows_end}
use Rattle.ore_blocks.proofs.inside.rows_inside.Goals as goal

pub returns-in_err-row_inside : goal.returns-in_err-row_inside
returns-in_err-row_inside g c =
    let s = g.R.OreRing.sig c.args.ring.now in
    let i = c.loop-i.i in
    let p = err_from_is_err_and c.from_residual.result c.from_residual.ensures.1 in
    rw (p.1, p.2) (refuses_as _ _ _ _ (rows_next program s c.args.to.now.cols (rows_of c.args.to.now) (rows_of c.args.m.now) c.args.section c.args.from.now c.args.inside.now i c.row.result.now c.row-in-loop-i.result.now c.row.ensures.value c.row-in-loop-i.ensures.value) c.loop-i.invariant _ c.in_err-row_inside.ensures)

pub loop-i-preserved : goal.loop-i-preserved
loop-i-preserved g c =
    let s = g.R.OreRing.sig c.args.ring.now in
    let i = c.loop-i.i in
    passed_as _ _ _ _ (rows_next program s c.args.to.now.cols (rows_of c.args.to.now) (rows_of c.args.m.now) c.args.section c.args.from.now c.args.inside.now i c.row.result.now c.row-in-loop-i.result.now c.row.ensures.value c.row-in-loop-i.ensures.value) c.loop-i.invariant tt c.in_ok-row_inside.ensures

pub returns : goal.returns
returns g c =
    let s = g.R.OreRing.sig c.args.ring.now in
    let past : length c.args.from.now.rows ≤ c.loop-i.i = omega arith in
    sym c.loop-i.invariant ∙ rows_end program s c.args.to.now.cols (rows_of c.args.to.now) (rows_of c.args.m.now) c.args.section c.args.from.now c.args.inside.now c.loop-i.i past
