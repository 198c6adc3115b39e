use Rattle.std.proofs.Common.{rules, sym, ap, ◌∙◌, ◌≤◌, ◌-◌, ◌+◌, arith}
use Rattle.std.proofs.lemmas.List.{map-append}
use Rattle.std.proofs.lemmas.Result.{err_from_is_err_and}
use Rattle.std.specs.declared.result.Result.TheVariants.{Ok}
use Rattle.ore_algebra.specs.Limits.{program, fronted}
use Rattle.ore_rational.specs.Field.{rationals}
use Rattle.ore_monomial.proofs.Stops.{fails_like}
use Rattle.ore_ring.specs.Ordered.{Ordered}
use Rattle.ore_rows.specs.Rows.{Row}
use Rattle.ore_rows.specs.RowsWithin.{combine_from, dot_within}
use Rattle.ore_rows.specs.Stored.{rows_of, sums_of}
use Rattle.ore_rows.proofs.Columns.{column_places, combine_next, combine_stops, combine_end}
use Rattle.ore_rows.proofs.matrix_ops.combine.Goals as goal

pub returns-in_err-dot-clause-gives : goal.returns-in_err-dot-clause-gives
returns-in_err-dot-clause-gives g c =
    let s = g.R.OreRing.sig c.args.ring.now in
    let j = c.loop-j.j in
    let p = err_from_is_err_and c.from_residual-in_err-dot.result c.from_residual-in_err-dot.ensures.1 in
    let same = column_places s j c.args.m.now.rows in
    rw (p.1, p.2) (fails_like _ _ _
    (λ e h. sym c.loop-j.invariant.told
    ∙ combine_stops program s (sums_of c.args.c.now) (rows_of c.args.m.now) j c.cols-j-end.result (sums_of c.loop-j.out.items) e c.loop-j-test.true
    (ap (λ (v : Row rationals). dot_within program s (sums_of c.args.c.now) v) same ∙ h))
    c.in_err-dot.ensures.gives)

pub loop-j-preserved : goal.loop-j-preserved
loop-j-preserved g c =
    let s = g.R.OreRing.sig c.args.ring.now in
    let j = c.loop-j.j in
    let same = column_places s j c.args.m.now.rows in
    record {
      told =
          ap (λ o. fronted (sums_of o) (combine_from program s (j + 1) (c.cols-j-end.result - (j + 1)) (sums_of c.args.c.now) (rows_of c.args.m.now))) c.in_ok-push.ensures.items
          ∙ ap (λ o. fronted o (combine_from program s (j + 1) (c.cols-j-end.result - (j + 1)) (sums_of c.args.c.now) (rows_of c.args.m.now))) (map-append (λ (w : Ordered). w.sum) c.loop-j.out.items _)
          ∙ sym (combine_next program s (sums_of c.args.c.now) (rows_of c.args.m.now) j c.cols-j-end.result (sums_of c.loop-j.out.items) c.in_ok-dot.field-0.sum c.loop-j-test.true
          (ap (λ (v : Row rationals). dot_within program s (sums_of c.args.c.now) v) same ∙ c.in_ok-dot.ensures.gives))
          ∙ c.loop-j.invariant.told;
      belongs = search rules;
      wide = search rules;
    }

pub returns-clause-gives : goal.returns-clause-gives
returns-clause-gives g c =
    let s = g.R.OreRing.sig c.args.ring.now in
    let past : c.cols-j-end.result ≤ c.loop-j.j = omega (arith, c.loop-j-test.false) in
    sym c.loop-j.invariant.told
    ∙ combine_end program s (sums_of c.args.c.now) (rows_of c.args.m.now) c.loop-j.j c.cols-j-end.result (sums_of c.loop-j.out.items) past
    ∙ ap (λ o. Ok (sums_of o)) (sym c.from_vec.ensures)
