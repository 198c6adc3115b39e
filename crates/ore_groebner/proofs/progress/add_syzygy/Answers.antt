use Rattle.std.proofs.Common.{◌++◌, [], ◌∷◌, refl, ap, ◌∙◌, arith}
use Rattle.ore_pairs.specs.PairList as pair
use Rattle.ore_rows.specs.StoredBasis.{StoredBasis}
use Rattle.ore_rows.specs.declared.choices.Choice.TheVariants.{Treat}
use Rattle.ore_division.specs.StoredWork.{work_of}
use Rattle.ore_groebner.specs.RunProgress.{choices_of}
use Rattle.ore_groebner.proofs.ProgressParts.{choices_push, entry_zero, entries_more, fits_more, zero_state, no_new_rows, new_rows-zero}
use Rattle.ore_groebner.specs.declared.outcome.Event.TheVariants.{Treated}
use Rattle.ore_groebner.specs.declared.outcome.Outcome.TheVariants.{Zero}
use Rattle.ore_groebner.specs.declared.progress.Progress.{Progress}
use Rattle.ore_groebner.proofs.progress.add_syzygy.Goals as goal

pub returns-clause-state : goal.returns-clause-state
returns-clause-state c =
    let p = c.args.progress in
    let e = Treated c.args.i c.args.j c.args.work.steps Zero in
    let q : Progress = record { first = c.in_ok-grown.grown.first; basis = c.in_ok-grown.grown.basis; listed = c.add.new.self; events = c.push.new.self; syzygies = c.in_ok-grown.grown.syzygies; origins = c.in_ok-grown.grown.origins } in
    zero_state c.args.sig.now.order p q c.args.i c.args.j c.len.result (work_of c.args.work) (omega (arith, c.len.ensures)) (entries_more p q e c.args.i c.args.j (pair.Pair c.args.i c.args.j c.args.work.steps) refl refl c.in_ok-grown.ensures.first (c.in_ok-push.ensures.items ∙ ap (λ es. es ++ e ∷ []) c.in_ok-grown.ensures.events) (entry_zero _ c.args.i c.args.j c.args.work.steps)) c.in_ok-grown.ensures.basis c.in_ok-grown.ensures.syzygies c.in_ok-grown.ensures.origins

pub returns-clause-fits : goal.returns-clause-fits
returns-clause-fits c =
    let p = c.in_ok-grown.grown in
    let e = Treated c.args.i c.args.j c.args.work.steps Zero in
    let k = c.in_ok-grown.ensures.fits in
    fits_more p _ e c.args.i c.args.j (pair.Pair c.args.i c.args.j c.args.work.steps) refl refl refl c.in_ok-push.ensures.items (entry_zero _ c.args.i c.args.j c.args.work.steps) c.args.sig.now k c.in_ok-add.ensures.added k.belongs (no_new_rows _ _ (new_rows-zero c.args.i c.args.j c.args.work.steps)) refl refl

pub returns-clause-shape : goal.returns-clause-shape
returns-clause-shape c =
    let e = c.in_ok-grown.ensures in
    record {
      first = e.first;
      cols = ap (λ (b : StoredBasis). b.cols) e.basis;
      width = ap (λ (b : StoredBasis). b.width) e.basis;
      events = ap choices_of c.in_ok-push.ensures.items ∙ choices_push c.in_ok-grown.grown.events.items (Treated c.args.i c.args.j c.args.work.steps Zero) ∙ ap (λ es. choices_of es ++ Treat c.args.i c.args.j ∷ []) e.events;
    }
