use Rattle.std.proofs.Common.{◌+◌, ◌≤◌, length, drop, sym, ap, ◌∙◌, arith}
use Rattle.std.proofs.lemmas.Result.{err_from_is_err_and}
use Rattle.std.specs.List.{All}
use Rattle.ore_algebra.specs.Limits.{program}
use Rattle.ore_ring.specs.Belongs.{Belongs}
use Rattle.ore_rows.specs.Stored.{rows_of}
use Rattle.ore_rows.proofs.Dots.{all_at}
use Rattle.ore_parts.specs.OfSignature.{IsEntryOf}
use Rattle.ore_blocks.specs.CheckBlock.{pairs_inside}
use Rattle.ore_blocks.specs.InnerContracts.{FitsLeads}
use Rattle.ore_blocks.proofs.Chains.{refuses_as, passed_as}
use Rattle.ore_blocks.proofs.InsideRows.{pairs_next, pairs_none, pairs_end}
use Rattle.ore_blocks.proofs.inside.pairs_inside.Goals as goal

pub returns-then-next-rows : goal.returns-then-next-rows
returns-then-next-rows g c =
    let s = g.R.OreRing.sig c.args.ring.now in
    let past : length c.args.inside.now.rows ≤ c.loop-k.next = omega arith in
    sym c.loop-k.invariant ∙ pairs_none program s c.args.to.now.cols c.args.leads.now (rows_of c.args.to.now) (rows_of c.args.m.now) c.args.section (drop c.loop-k.k c.args.pairs.now) c.args.inside.now c.loop-k.next past

pub pair_inside-requires-clause-fits_leads : goal.pair_inside-requires-clause-fits_leads
pair_inside-requires-clause-fits_leads g c = all_at (FitsLeads c.args.leads.now) c.args.pairs.now c.loop-k.k c.get-entry.result.now c.get-entry.ensures c.requires.fits_leads

pub pair_inside-requires-clause-entry_of : goal.pair_inside-requires-clause-entry_of
pair_inside-requires-clause-entry_of g c = all_at (IsEntryOf (g.R.OreRing.sig c.args.ring.now)) c.args.pairs.now c.loop-k.k c.get-entry.result.now c.get-entry.ensures c.requires.pairs_of

pub pair_inside-requires-clause-inside_of : goal.pair_inside-requires-clause-inside_of
pair_inside-requires-clause-inside_of g c = all_at (All (Belongs (g.R.OreRing.sig c.args.ring.now))) c.args.inside.now.rows c.loop-k.next c.row.result.now c.row.ensures.value c.requires.inside_of

pub returns-in_err-pair_inside : goal.returns-in_err-pair_inside
returns-in_err-pair_inside g c =
    let s = g.R.OreRing.sig c.args.ring.now in
    let p = err_from_is_err_and c.from_residual.result c.from_residual.ensures.1 in
    rw (p.1, p.2) (refuses_as _ _ _ _ (pairs_next program s c.args.to.now.cols c.args.leads.now (rows_of c.args.to.now) (rows_of c.args.m.now) c.args.section c.args.pairs.now c.loop-k.k c.get-entry.result.now c.args.inside.now c.loop-k.next c.row.result.now c.get-entry.ensures c.row.ensures.value) c.loop-k.invariant _ c.in_err-pair_inside.ensures)

pub loop-k-preserved : goal.loop-k-preserved
loop-k-preserved g c =
    let s = g.R.OreRing.sig c.args.ring.now in
    let taken = c.rows_taken-next.ensures.value in
    ap (λ t. pairs_inside program s c.args.to.now.cols c.args.leads.now (rows_of c.args.to.now) (rows_of c.args.m.now) c.args.section (c.loop-k.next + t) (drop (c.loop-k.k + 1) c.args.pairs.now) (drop (c.loop-k.next + t) (rows_of c.args.inside.now))) taken
    ∙ passed_as _ _ _ _ (pairs_next program s c.args.to.now.cols c.args.leads.now (rows_of c.args.to.now) (rows_of c.args.m.now) c.args.section c.args.pairs.now c.loop-k.k c.get-entry.result.now c.args.inside.now c.loop-k.next c.row.result.now c.get-entry.ensures c.row.ensures.value) c.loop-k.invariant tt c.in_ok-pair_inside.ensures

pub returns : goal.returns
returns g c =
    let s = g.R.OreRing.sig c.args.ring.now in
    let past : length c.args.pairs.now ≤ c.loop-k.k = omega arith in
    sym c.loop-k.invariant ∙ pairs_end program s c.args.to.now.cols c.args.leads.now (rows_of c.args.to.now) (rows_of c.args.m.now) c.args.section c.loop-k.next c.args.pairs.now c.loop-k.k (drop c.loop-k.next (rows_of c.args.inside.now)) past
