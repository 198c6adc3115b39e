use Rattle.std.proofs.Common.{refl, ap, ◌∙◌}
use Rattle.ore_pairs.specs.PairList as pair
use Rattle.ore_rows.specs.Stored.{sums_of}
use Rattle.ore_rows.specs.StoredBasis.{monics}
use Rattle.std.specs.Prelude.{map}
use Rattle.ore_groebner.specs.RunProgress.{choices_of}
use Rattle.ore_groebner.proofs.ProgressParts.{choices_push, entry_skip, entries_more, fits_more, no_new_rows, new_rows-skip}
use Rattle.ore_groebner.specs.declared.outcome.Event.TheVariants.{Skipped}
use Rattle.ore_groebner.specs.declared.progress.Progress.{Progress}
use Rattle.ore_groebner.proofs.progress.skip.Goals as goal

pub returns-clause-state : goal.returns-clause-state
returns-clause-state c =
    let p = c.args.progress in
    let q : Progress = record { first = p.first; basis = p.basis; listed = c.add.new.self; events = c.push.new.self; syzygies = p.syzygies; origins = p.origins } in
    λ n. record { basis = monics c.args.progress.basis; listed = entries_more p q (Skipped c.args.i c.args.j c.args.via) c.args.i c.args.j (pair.Skip c.args.i c.args.j c.args.via) refl refl refl c.in_ok-push.ensures.items (entry_skip _ c.args.i c.args.j c.args.via) n; syzygies = map sums_of c.args.progress.syzygies.items; origins = c.args.progress.origins.items }

pub returns-clause-fits : goal.returns-clause-fits
returns-clause-fits c s k = fits_more c.args.progress _ (Skipped c.args.i c.args.j c.args.via) c.args.i c.args.j (pair.Skip c.args.i c.args.j c.args.via) refl refl refl c.in_ok-push.ensures.items (entry_skip _ c.args.i c.args.j c.args.via) s k c.in_ok-add.ensures.added k.belongs (no_new_rows _ _ (new_rows-skip c.args.i c.args.j c.args.via)) refl refl

pub returns-clause-shape : goal.returns-clause-shape
returns-clause-shape c = record { first = refl; cols = refl; width = refl; events = ap choices_of c.in_ok-push.ensures.items ∙ choices_push c.args.progress.events.items (Skipped c.args.i c.args.j c.args.via) }
