use Rattle.std.proofs.Common.{rules, refl, true≢false, ◌+◌, ◌++◌, ◌≤◌, ◌∷◌, List, [], length, map, drop, sym, ap, ◌∙◌, arith}
use Rattle.std.proofs.lemmas.List.{map-append}
use Rattle.std.proofs.lemmas.Result.{err_from_is_err_and}
use Rattle.std.specs.declared.result.Result.TheVariants.{Ok}
use Rattle.ore_algebra.specs.Limits.{program}
use Rattle.ore_rational.specs.Field.{rationals}
use Rattle.ore_monomial.proofs.Stops.{fails_like}
use Rattle.ore_rows.specs.Arithmetic.{within}
use Rattle.ore_rows.specs.ReduceRows.{AllReduce, reduce_rows_from}
use Rattle.ore_rows.specs.Rows.{Row}
use Rattle.ore_rows.specs.Stored.{rows_of, sums_of}
use Rattle.ore_rows.specs.StoredBasis.{monics}
use Rattle.ore_inverse.proofs.ReducedInOrder.{stored_stops, stored_leaves, stored_reduces, all_reduced}
use Rattle.ore_inverse.proofs.reductions.reduce_rows.Goals as goal

pub returns-in_err-left-clause-gives : goal.returns-in_err-left-clause-gives
returns-in_err-left-clause-gives g c =
    let s = g.R.OreRing.sig c.args.ring.now in
    let b = c.args.basis.now in
    let p = err_from_is_err_and c.from_residual.result c.from_residual.ensures.1 in
    rw (p.1, p.2) (fails_like _ _ _
    (λ e h. sym c.loop-k.invariant.told ∙ stored_stops s.order (within program s) b.width (monics b) c.args.rows.now c.loop-k.k (map sums_of c.loop-k.out.items) c.row.result.now c.row.ensures.value e h)
    c.in_err-left.ensures.gives)

pub returns-then-not-is_zero-clause-gives : goal.returns-then-not-is_zero-clause-gives
returns-then-not-is_zero-clause-gives g c =
    let s = g.R.OreRing.sig c.args.ring.now in
    let b = c.args.basis.now in
    sym c.loop-k.invariant.told ∙ stored_leaves s.order (within program s) b.width (monics b) c.args.rows.now c.loop-k.k (map sums_of c.loop-k.out.items) c.row.result.now c.row.ensures.value c.in_ok-left.left c.in_ok-left.ensures.gives (λ z. true≢false (sym (c.if-not-is_zero.ensures.1 z)))

pub loop-k-preserved : goal.loop-k-preserved
loop-k-preserved g c =
    let s = g.R.OreRing.sig c.args.ring.now in
    let b = c.args.basis.now in
    let rest = drop (c.loop-k.k + 1) (rows_of c.args.rows.now) in
    let from = λ (cs : List (Row rationals)). reduce_rows_from rationals s.order (within program s) b.width (monics b) (c.loop-k.k + 1) cs rest in
    record {
      told =
          ap (λ o. from (map sums_of o)) c.in_ok-push.ensures.items
          ∙ ap from (map-append sums_of c.loop-k.out.items _)
          ∙ ap (λ x. from (map sums_of c.loop-k.out.items ++ x ∷ [])) c.in_ok-negated.ensures.value
          ∙ sym (stored_reduces s.order (within program s) b.width (monics b) c.args.rows.now c.loop-k.k (map sums_of c.loop-k.out.items) c.row.result.now c.row.ensures.value c.in_ok-left.left c.in_ok-left.ensures.gives (c.if-not-is_zero.ensures.0 refl))
          ∙ c.loop-k.invariant.told;
      belongs = search rules;
      wide = search rules;
    }

pub returns-clause-gives : goal.returns-clause-gives
returns-clause-gives g c =
    let s = g.R.OreRing.sig c.args.ring.now in
    let b = c.args.basis.now in
    let past : length c.args.rows.now.rows ≤ c.loop-k.k = omega (arith, c.loop-k-test.false, c.rows-k-end.ensures.value) in
    sym c.loop-k.invariant.told ∙ all_reduced s.order (within program s) b.width (monics b) c.args.rows.now c.loop-k.k (map sums_of c.loop-k.out.items) past
    ∙ ap (λ m. Ok (AllReduce (rows_of m))) (sym c.from_rows.ensures)
