use Rattle.std.proofs.Common.{get_or, map, refl, sym, ap, ◌∙◌}
use Rattle.std.proofs.lemmas.List.{length-map}
use Rattle.std.proofs.lemmas.Result.{err_from_is_err_and}
use Rattle.std.specs.List.{All}
use Rattle.ore_algebra.specs.Free.{empty_sum}
use Rattle.ore_algebra.specs.Limits.{program, fold_within}
use Rattle.ore_rational.specs.Field.{rationals}
use Rattle.ore_monomial.specs.Monomial.{plain_cmp}
use Rattle.ore_monomial.specs.Signature.{Signature}
use Rattle.ore_monomial.proofs.Stops.{fails_like}
use Rattle.ore_ring.specs.Belongs.{Belongs}
use Rattle.ore_ring.specs.Ordered.{Ordered}
use Rattle.ore_rows.specs.Rows.{Row}
use Rattle.ore_rows.specs.RowsWithin.{added_at}
use Rattle.ore_rows.specs.Stored.{sums_of, places}
use Rattle.ore_rows.proofs.Dots.{all_at, zero_belongs}
use Rattle.ore_rows.proofs.NonzeroPlaces.{added_there, none_there, place_next, place_stops, places_end}
use Rattle.ore_rows.proofs.matrix_ops.dot.Goals as goal

pub loop-k-init : goal.loop-k-init
loop-k-init g c =
    let s = g.R.OreRing.sig c.args.ring.now in
    let row = c.args.c.now in
    let rows = c.args.m.now.rows in
    let column = places c.args.j rows in
    let high = length-map (map sums_of rows) (λ (q : Row rationals). get_or q c.args.j (empty_sum rationals plain_cmp)) ∙ length-map rows sums_of ∙ sym c.requires.rows ∙ sym (length-map row (λ (w : Ordered). w.sum)) in
    record {
      told = ap (λ (w : Ordered). fold_within (added_at program s (sums_of row) column) w.sum c.args.nonzero.now) c.zero-acc.ensures ∙ c.requires.enough program s column high;
      belongs = zero_belongs s _ c.zero-acc.result c.zero-acc.ensures (c.order.ensures ∙ ap (λ (v : Signature). v.order) c.signature.ensures);
    }

pub add_product-requires-clause-f_of : goal.add_product-requires-clause-f_of
add_product-requires-clause-f_of g c = all_at (Belongs (g.R.OreRing.sig c.args.ring.now)) _ _ _ c.entry.ensures c.requires.c_of

pub add_product-requires-clause-g_of : goal.add_product-requires-clause-g_of
add_product-requires-clause-g_of g c =
    let s = g.R.OreRing.sig c.args.ring.now in
    all_at (Belongs s) _ c.args.j _ c.entry-g.ensures (all_at (All (Belongs s)) _ _ _ c.row.ensures.value c.requires.m_of)

pub loop-k-preserved-then-is_zero : goal.loop-k-preserved-then-is_zero
loop-k-preserved-then-is_zero g c =
    let s = g.R.OreRing.sig c.args.ring.now in
    let ks = c.args.nonzero.now in
    let n = c.loop-k.k-index in
    let row = sums_of c.args.c.now in
    let rows = c.args.m.now.rows in
    record {
      told =
          sym (place_next (added_at program s row (places c.args.j rows)) ks n c.loop-k.acc.sum c.loop-k.acc.sum c.loop-k-test.true
          (none_there program s row rows (get_or ks n 0) c.args.j c.row.result.now c.entry-g.result.now c.loop-k.acc.sum c.row.ensures.value c.entry-g.ensures (c.if-is_zero.ensures.0 refl)))
          ∙ c.loop-k.invariant.told;
      belongs = c.loop-k.invariant.belongs;
    }

pub returns-in_err-acc-clause-gives : goal.returns-in_err-acc-clause-gives
returns-in_err-acc-clause-gives g c =
    let s = g.R.OreRing.sig c.args.ring.now in
    let ks = c.args.nonzero.now in
    let n = c.loop-k.k-index in
    let k = get_or ks n 0 in
    let row = c.args.c.now in
    let rows = c.args.m.now.rows in
    let p = err_from_is_err_and c.from_residual.result c.from_residual.ensures.1 in
    rw (p.1, p.2) (fails_like _ _ _
    (λ e h. sym c.loop-k.invariant.told
    ∙ place_stops (added_at program s (sums_of row) (places c.args.j rows)) ks n c.loop-k.acc.sum e c.loop-k-test.true
    (added_there program s row rows k c.args.j c.entry.result.now c.row.result.now c.entry-g.result.now c.loop-k.acc.sum c.entry.ensures c.row.ensures.value c.entry-g.ensures ∙ h))
    c.in_err-acc.ensures.gives)

pub loop-k-preserved : goal.loop-k-preserved
loop-k-preserved g c =
    let s = g.R.OreRing.sig c.args.ring.now in
    let ks = c.args.nonzero.now in
    let n = c.loop-k.k-index in
    let k = get_or ks n 0 in
    let row = c.args.c.now in
    let rows = c.args.m.now.rows in
    record {
      told =
          sym (place_next (added_at program s (sums_of row) (places c.args.j rows)) ks n c.loop-k.acc.sum c.in_ok-acc.acc.sum c.loop-k-test.true
          (added_there program s row rows k c.args.j c.entry.result.now c.row.result.now c.entry-g.result.now c.loop-k.acc.sum c.entry.ensures c.row.ensures.value c.entry-g.ensures ∙ c.in_ok-acc.ensures.gives))
          ∙ c.loop-k.invariant.told;
      belongs = c.in_ok-acc.ensures.of;
    }

pub returns-clause-gives : goal.returns-clause-gives
returns-clause-gives g c =
    let s = g.R.OreRing.sig c.args.ring.now in
    sym c.loop-k.invariant.told
    ∙ places_end (added_at program s (sums_of c.args.c.now) (places c.args.j c.args.m.now.rows)) c.args.nonzero.now c.loop-k.k-index c.loop-k.acc.sum c.loop-k-test.false
