use Rattle.std.proofs.Common.{◌≤◌, length, refl, sym, ap, ◌∙◌, subst, arith}
use Rattle.std.specs.List.{All}
use Rattle.std.specs.Option.{option_map}
use Rattle.std.proofs.lemmas.List.{length-map}
use Rattle.std.proofs.lemmas.Option.{slice_get-map}
use Rattle.std.proofs.lemmas.Result.{err_from_is_err_and}
use Rattle.ore_algebra.specs.Limits.{program}
use Rattle.ore_rational.specs.Field.{rationals, rational_inverses}
use Rattle.ore_monomial.proofs.Stops.{fails_like}
use Rattle.ore_ring.specs.Belongs.{Belongs}
use Rattle.ore_rows.specs.Arithmetic.{within}
use Rattle.ore_pairs.specs.Run as run
use Rattle.ore_rows.specs.Stored.{rows_of, sums_of}
use Rattle.ore_rows.specs.StoredBasis.{StoredBasis, monics}
use Rattle.ore_rows.proofs.Dots.{all_at}
use Rattle.ore_groebner.specs.RunProgress.{run_state, IsBegun}
use Rattle.ore_groebner.specs.declared.progress.Progress.{Progress}
use Rattle.ore_groebner.proofs.FirstBasis.{begun_first, rows_start, rows_next, rows_stop, rows_end, empty_fits}
use Rattle.ore_groebner.proofs.first.begin.Goals as goal

pub loop-k-init : goal.loop-k-init
loop-k-init g c =
    let s = g.R.OreRing.sig c.args.ring.now in
    let p : Progress = record { first = 0; basis = c.new.result; listed = c.new-2.result; events = c.new-3.result; syzygies = c.new-4.result; origins = c.new-5.result } in
    let begun : IsBegun p = record { events = c.new-3.ensures.items; listed = c.new-2.ensures } in
    record {
      told = rows_start s (rows_of c.args.a.now) p (ap monics c.new.ensures) begun c.new-4.ensures.items c.new-5.ensures.items;
      fits = empty_fits s p _ _ c.new.ensures refl begun c.new-4.ensures.items;
      begun = begun;
      cols = ap (λ (b : StoredBasis). b.cols) c.new.ensures ∙ c.cols.ensures.value;
      width = ap (λ (b : StoredBasis). b.width) c.new.ensures ∙ c.rows.ensures.value;
      few = let e = ap (λ (b : StoredBasis). length b.items) c.new.ensures in omega arith;
    }

pub begin_row-requires-clause-row_of : goal.begin_row-requires-clause-row_of
begin_row-requires-clause-row_of g c = all_at (All (Belongs (g.R.OreRing.sig c.args.ring.now))) c.args.a.now.rows c.loop-k.k c.row.result.now c.row.ensures.value c.requires

pub returns-in_err-progress-clause-gives : goal.returns-in_err-progress-clause-gives
returns-in_err-progress-clause-gives g c =
    let s = g.R.OreRing.sig c.args.ring.now in
    let a = c.args.a.now in
    let p = err_from_is_err_and c.from_residual.result c.from_residual.ensures.1 in
    let width = length-map a.rows sums_of ∙ sym c.loop-k.invariant.width in
    rw (p.1, p.2) (fails_like _ _ _ (λ e h. c.loop-k.invariant.told ∙ rows_stop s (rows_of a) (length (rows_of a)) c.loop-k.k (sums_of c.row.result.now) (run_state c.loop-k.progress) e (slice_get-map sums_of a.rows c.loop-k.k ∙ ap (option_map sums_of) c.row.ensures.value) (ap (λ n. run.begin_row rationals rational_inverses s.order (within program s) n c.loop-k.k (sums_of c.row.result.now) (run_state c.loop-k.progress)) width ∙ h)) c.in_err-progress.ensures.gives)

pub loop-k-preserved : goal.loop-k-preserved
loop-k-preserved g c =
    let s = g.R.OreRing.sig c.args.ring.now in
    let a = c.args.a.now in
    let i = c.loop-k.invariant in
    let e = c.in_ok-progress.ensures in
    let width = length-map a.rows sums_of ∙ sym i.width in
    record {
      told = i.told ∙ rows_next s (rows_of a) (length (rows_of a)) c.loop-k.k (sums_of c.row.result.now) (run_state c.loop-k.progress) (run_state c.in_ok-progress.progress) (slice_get-map sums_of a.rows c.loop-k.k ∙ ap (option_map sums_of) c.row.ensures.value) (ap (λ n. run.begin_row rationals rational_inverses s.order (within program s) n c.loop-k.k (sums_of c.row.result.now) (run_state c.loop-k.progress)) width ∙ e.gives);
      fits = e.fits;
      begun = e.begun;
      cols = e.widths.cols ∙ i.cols;
      width = e.widths.width ∙ i.width;
      few = let n = e.count in let m = i.few in omega arith;
    }

pub returns-clause-gives : goal.returns-clause-gives
returns-clause-gives g c =
    let s = g.R.OreRing.sig c.args.ring.now in
    let a = c.args.a.now in
    c.loop-k.invariant.told ∙ rows_end s (rows_of a) (length (rows_of a)) c.loop-k.k (run_state c.loop-k.progress) (subst (λ n. n ≤ c.loop-k.k) (sym (length-map a.rows sums_of)) (grind arith))

pub returns-clause-first : goal.returns-clause-first
returns-clause-first g c =
    let i = c.loop-k.invariant in
    let e = begun_first (g.R.OreRing.sig c.args.ring.now) c.loop-k.progress i.fits i.begun in
    (e, grind (arith, e, i.few, c.rows-k-end.ensures.value))
