use Rattle.std.proofs.Common.{rules, sym, ap, ◌∙◌, ◌≤◌, ◌+◌, drop, length, map, arith}
use Rattle.std.proofs.lemmas.List.{map-append}
use Rattle.std.proofs.lemmas.Result.{err_from_is_err_and}
use Rattle.std.specs.declared.result.Result.TheVariants.{Ok}
use Rattle.ore_algebra.specs.Limits.{program, fronted, map_within}
use Rattle.ore_rational.specs.Field.{rationals}
use Rattle.ore_monomial.proofs.Stops.{fails_like}
use Rattle.ore_ring.specs.AdjointWithin.{adjoint_within}
use Rattle.ore_ring.specs.Ordered.{Ordered}
use Rattle.ore_rows.specs.Rows.{column}
use Rattle.ore_rows.specs.Stored.{sums_of}
use Rattle.ore_adjoint.proofs.AdjointLoops.{item_next, item_stops, item_end, entries_next, entries_end}
use Rattle.ore_adjoint.proofs.matrix.adjoint_column.Goals as goal

pub returns-in_err-adjoint-clause-gives : goal.returns-in_err-adjoint-clause-gives
returns-in_err-adjoint-clause-gives g c =
    let s = g.R.OreRing.sig c.args.ring.now in
    let front = sums_of c.loop-i.out.items in
    let p = err_from_is_err_and c.from_residual.result c.from_residual.ensures.1 in
    rw (p.1, p.2) (fails_like _ _ _
    (λ e h. sym c.loop-i.invariant.told
    ∙ ap (λ xs. fronted front (map_within (adjoint_within program s) xs)) (entries_next s c.args.j c.args.m.now.rows c.loop-i.i c.row.result.now c.entry.result.now c.row.ensures.value c.entry.ensures)
    ∙ item_stops (adjoint_within program s) front _ _ e h)
    c.in_err-adjoint.ensures.gives)

pub loop-i-preserved : goal.loop-i-preserved
loop-i-preserved g c =
    let s = g.R.OreRing.sig c.args.ring.now in
    let front = sums_of c.loop-i.out.items in
    let rest = column rationals s c.args.j (map sums_of (drop (c.loop-i.i + 1) c.args.m.now.rows)) in
    record {
      told =
          ap (λ o. fronted (sums_of o) (map_within (adjoint_within program s) rest)) c.in_ok-push.ensures.items
          ∙ ap (λ o. fronted o (map_within (adjoint_within program s) rest)) (map-append (λ (w : Ordered). w.sum) c.loop-i.out.items _)
          ∙ sym (item_next (adjoint_within program s) front c.entry.result.now.sum rest c.in_ok-adjoint.field-0.sum c.in_ok-adjoint.ensures.gives)
          ∙ sym (ap (λ xs. fronted front (map_within (adjoint_within program s) xs)) (entries_next s c.args.j c.args.m.now.rows c.loop-i.i c.row.result.now c.entry.result.now c.row.ensures.value c.entry.ensures))
          ∙ c.loop-i.invariant.told;
      belongs = search rules;
      wide = search rules;
    }

pub returns-clause-gives : goal.returns-clause-gives
returns-clause-gives g c =
    let s = g.R.OreRing.sig c.args.ring.now in
    let front = sums_of c.loop-i.out.items in
    let past : length c.args.m.now.rows ≤ c.loop-i.i = omega (arith, c.loop-i-test.false, c.rows-i-end.ensures.value) in
    sym c.loop-i.invariant.told
    ∙ ap (λ xs. fronted front (map_within (adjoint_within program s) xs)) (entries_end s c.args.j c.args.m.now.rows c.loop-i.i past)
    ∙ item_end (adjoint_within program s) front
    ∙ ap (λ o. Ok (sums_of o)) (sym c.from_vec.ensures)
