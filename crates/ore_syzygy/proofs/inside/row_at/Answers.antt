use Rattle.std.proofs.Common.{◌≡◌, sym, ◌∙◌, ap, arith}
use Rattle.ore_rational.specs.Field.{rationals}
use Rattle.ore_monomial.specs.Signature.{Signature}
use Rattle.ore_rows.specs.Rows.{zero_row}
use Rattle.std.proofs.lemmas.Result.{IfOk-weaker}
use Rattle.ore_blocks.specs.BlockOfRun.{ordered_row}
use Rattle.ore_syzygy.proofs.RowsFrom.{row_from-same, row_from-other, row_from-end}
use Rattle.ore_syzygy.proofs.inside.row_at.Goals as goal

pub returns-then-is_same-clause-value : goal.returns-then-is_same-clause-value
returns-then-is_same-clause-value g c =
    let s = g.R.OreRing.sig c.args.ring.now in
    let given = c.args.given.now in
    IfOk-weaker c.row_copy.result (λ r. r ≡ c.row.result.now) _ (λ r same.
    same ∙ sym (c.loop-k.invariant
    ∙ row_from-same (ordered_row s.order (zero_row rationals given.cols)) c.args.origin.now c.args.origins.now given.rows c.loop-k.k c.get.result.now c.get.ensures c.row.result.now c.row.ensures.value (c.if-is_same.ensures {u = tt}))) c.row_copy.ensures.same

pub loop-k-preserved : goal.loop-k-preserved
loop-k-preserved g c =
    let s = g.R.OreRing.sig c.args.ring.now in
    let given = c.args.given.now in
    c.loop-k.invariant
    ∙ row_from-other (ordered_row s.order (zero_row rationals given.cols)) c.args.origin.now c.args.origins.now given.rows c.loop-k.k c.get.result.now c.get.ensures
    (grind (arith, c.loop-k-test.true, c.len-k-end.ensures, c.requires)) c.if-is_same.ensures

pub returns-clause-value : goal.returns-clause-value
returns-clause-value g c =
    let s = g.R.OreRing.sig c.args.ring.now in
    let given = c.args.given.now in
    c.in_ok-zero_row.ensures.value
    ∙ (λ i. ordered_row (ap (λ (v : Signature). v.order) c.signature.ensures i) (zero_row rationals (c.cols.ensures.value i)))
    ∙ sym (c.loop-k.invariant ∙ row_from-end (ordered_row s.order (zero_row rationals given.cols)) c.args.origin.now c.args.origins.now given.rows c.loop-k.k (grind (arith, c.loop-k-test.false, c.len-k-end.ensures)))
