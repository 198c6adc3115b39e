use Rattle.std.proofs.Common.{◌+◌, ◌++◌, [], ◌∷◌, refl, ap, ◌∙◌}
use Rattle.std.proofs.lemmas.List.{length-map}
use Rattle.std.proofs.lemmas.Result.{err_from_is_err_and}
use Rattle.ore_monomial.specs.Monomial.{unit}
use Rattle.ore_monomial.proofs.Stops.{fails_like}
use Rattle.ore_pairs.specs.PairList as pair
use Rattle.ore_rows.specs.StoredBasis.{monic_of}
use Rattle.ore_division.specs.StoredWork.{work_of}
use Rattle.ore_groebner.specs.RunProgress.{new_rows, choices_of}
use Rattle.ore_groebner.proofs.ProgressParts.{choices_push, entry_row, entries_more, fits_more, row_stops, row_state, one_new_row, new_rows-row}
use Rattle.ore_groebner.specs.declared.outcome.Event.TheVariants.{Treated}
use Rattle.ore_groebner.specs.declared.outcome.Outcome.TheVariants.{NewRow}
use Rattle.ore_groebner.specs.declared.progress.Progress.{Progress}
use Rattle.ore_groebner.proofs.progress.add_row.Goals as goal

pub returns-in_err-basis-clause-gives : goal.returns-in_err-basis-clause-gives
returns-in_err-basis-clause-gives g c t lead =
    let p = err_from_is_err_and c.from_residual.result c.from_residual.ensures.1 in
    rw (p.1, p.2) (fails_like _ _ _ (λ e h. row_stops (g.R.OreRing.sig c.args.ring.now) c.args.progress c.args.i c.args.j (work_of c.args.work) t e h) (c.in_err-basis.ensures.gives t lead))

pub returns-clause-gives : goal.returns-clause-gives
returns-clause-gives g c t lead =
    let s = g.R.OreRing.sig c.args.ring.now in
    let p = c.args.progress in
    let w = c.args.work in
    let e = Treated c.args.i c.args.j w.steps (NewRow c.args.coef) in
    let entry = pair.Pair c.args.i c.args.j (w.steps ++ record { index = p.first + new_rows p.events.items; monomial = unit; number = c.args.coef } ∷ []) in
    let q : Progress = record { first = p.first; basis = c.in_ok-basis.basis; listed = c.add.new.self; events = c.push.new.self; syzygies = p.syzygies; origins = p.origins } in
    row_state s p c.args.i c.args.j (work_of w) t q c.args.coef lead.stands (length-map p.basis.items monic_of ∙ c.requires.fits.counted) (entries_more p q e c.args.i c.args.j entry refl refl refl c.in_ok-push.ensures.items (entry_row _ c.args.i c.args.j w.steps c.args.coef)) refl refl (c.in_ok-basis.ensures.gives t lead)

pub returns-clause-fits : goal.returns-clause-fits
returns-clause-fits g c =
    let s = g.R.OreRing.sig c.args.ring.now in
    let p = c.args.progress in
    let w = c.args.work in
    let e = Treated c.args.i c.args.j w.steps (NewRow c.args.coef) in
    let entry = pair.Pair c.args.i c.args.j (w.steps ++ record { index = p.first + new_rows p.events.items; monomial = unit; number = c.args.coef } ∷ []) in
    fits_more p _ e c.args.i c.args.j entry refl refl refl c.in_ok-push.ensures.items (entry_row _ c.args.i c.args.j w.steps c.args.coef) s c.requires.fits c.in_ok-add.ensures.added c.in_ok-basis.ensures.basis_of (one_new_row _ _ _ c.in_ok-basis.ensures.count (new_rows-row c.args.i c.args.j w.steps c.args.coef)) c.in_ok-basis.ensures.width refl

pub returns-clause-shape : goal.returns-clause-shape
returns-clause-shape g c = record {
  first = refl;
  cols = c.in_ok-basis.ensures.cols;
  width = c.in_ok-basis.ensures.width;
  events = ap choices_of c.in_ok-push.ensures.items ∙ choices_push c.args.progress.events.items (Treated c.args.i c.args.j c.args.work.steps (NewRow c.args.coef));
}
