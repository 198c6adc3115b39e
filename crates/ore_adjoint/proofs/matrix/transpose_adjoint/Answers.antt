use Rattle.std.proofs.Common.{rules, sym, ap, ◌∙◌, ◌≤◌, ◌<◌, ◌-◌, ◌+◌, ℕ, map, arith}
use Rattle.std.specs.List.{range_with_len}
use Rattle.std.proofs.lemmas.List.{map-append}
use Rattle.std.proofs.lemmas.Result.{err_from_is_err_and}
use Rattle.std.specs.declared.result.Result.TheVariants.{Ok}
use Rattle.ore_algebra.specs.Limits.{program, fronted, map_within}
use Rattle.ore_monomial.proofs.Stops.{fails_like}
use Rattle.ore_rows.specs.Stored.{rows_of, sums_of}
use Rattle.ore_adjoint.specs.AdjointMatrix.{adjoint_column_within}
use Rattle.ore_adjoint.proofs.AdjointLoops.{item_next, item_stops, item_end, columns_next, columns_end}
use Rattle.ore_adjoint.proofs.matrix.transpose_adjoint.Goals as goal

pub returns-in_err-adjoint_column-clause-gives : goal.returns-in_err-adjoint_column-clause-gives
returns-in_err-adjoint_column-clause-gives g c =
    let s = g.R.OreRing.sig c.args.ring.now in
    let row = λ (j : ℕ). adjoint_column_within program s j (rows_of c.args.m.now) in
    let front = map sums_of c.loop-j.out.items in
    let below : c.loop-j.j < c.args.m.now.cols = omega (arith, c.loop-j-test.true, c.cols-j-end.ensures.value) in
    let p = err_from_is_err_and c.from_residual.result c.from_residual.ensures.1 in
    rw (p.1, p.2) (fails_like _ _ _
    (λ e h. sym c.loop-j.invariant.told
    ∙ ap (λ js. fronted front (map_within row js)) (columns_next c.loop-j.j c.args.m.now.cols below)
    ∙ item_stops row front _ _ e h)
    c.in_err-adjoint_column.ensures.gives)

pub loop-j-preserved : goal.loop-j-preserved
loop-j-preserved g c =
    let s = g.R.OreRing.sig c.args.ring.now in
    let row = λ (j : ℕ). adjoint_column_within program s j (rows_of c.args.m.now) in
    let front = map sums_of c.loop-j.out.items in
    let rest = range_with_len (c.loop-j.j + 1) (c.args.m.now.cols - (c.loop-j.j + 1)) in
    let below : c.loop-j.j < c.args.m.now.cols = omega (arith, c.loop-j-test.true, c.cols-j-end.ensures.value) in
    record {
      told =
          ap (λ o. fronted (map sums_of o) (map_within row rest)) c.in_ok-push.ensures.items
          ∙ ap (λ o. fronted o (map_within row rest)) (map-append sums_of c.loop-j.out.items _)
          ∙ sym (item_next row front c.loop-j.j rest (sums_of c.in_ok-adjoint_column.field-0) c.in_ok-adjoint_column.ensures.gives)
          ∙ sym (ap (λ js. fronted front (map_within row js)) (columns_next c.loop-j.j c.args.m.now.cols below))
          ∙ c.loop-j.invariant.told;
      belongs = search rules;
      wide = search rules;
      count = search rules;
    }

pub returns-clause-gives : goal.returns-clause-gives
returns-clause-gives g c =
    let s = g.R.OreRing.sig c.args.ring.now in
    let row = λ (j : ℕ). adjoint_column_within program s j (rows_of c.args.m.now) in
    let front = map sums_of c.loop-j.out.items in
    let past : c.args.m.now.cols ≤ c.loop-j.j = omega (arith, c.loop-j-test.false, c.cols-j-end.ensures.value) in
    sym c.loop-j.invariant.told
    ∙ ap (λ js. fronted front (map_within row js)) (columns_end c.loop-j.j c.args.m.now.cols past)
    ∙ item_end row front
    ∙ ap (λ t. Ok (rows_of t)) (sym c.from_rows.ensures)
