use Rattle.std.proofs.Common.{◌≡◌, length, map, sym, ◌∙◌, subst}
use Rattle.std.specs.List.{All}
use Rattle.std.specs.declared.result.Result.TheVariants.{Ok}
use Rattle.ore_ring.specs.Ordered.{Ordered}
use Rattle.ore_rows.specs.Stored.{sums_of}
use Rattle.ore_rows.specs.StoredBasis.{monics}
use Rattle.std.specs.Prelude.{List}
use Rattle.ore_groebner.specs.RunProgress.{run_state}
use Rattle.ore_groebner.specs.declared.progress.Progress.{Progress}
use Rattle.ore_groebner.proofs.FirstBasis.{with_basis_row_gives, begun_entries, monic_fits}
use Rattle.ore_groebner.proofs.first.begin_monic.Goals as goal

pub returns-clause-gives : goal.returns-clause-gives
returns-clause-gives g c t lead =
    let p = c.args.progress in
    with_basis_row_gives (run_state p) _ (monics c.in_ok-basis.basis) (c.in_ok-basis.ensures.gives t lead)
    ∙ (λ n. Ok (record { basis = monics c.in_ok-basis.basis; listed = (begun_entries p p.first c.requires.begun ∙ sym (begun_entries p c.len-first.result c.requires.begun)) n; syzygies = map sums_of p.syzygies.items; origins = p.origins.items }))

pub returns-clause-fits : goal.returns-clause-fits
returns-clause-fits g c =
    let p = c.args.progress in
    let q : Progress = record { first = c.len-first.result; basis = c.in_ok-basis.basis; listed = p.listed; events = p.events; syzygies = p.syzygies; origins = p.origins } in
    monic_fits (g.R.OreRing.sig c.args.ring.now) q (record { events = c.requires.begun.events; listed = c.requires.begun.listed }) c.len-first.ensures.value c.in_ok-basis.ensures.basis_of (subst (λ n. All (λ (r : List Ordered). length r ≡ n) p.syzygies.items) (sym c.in_ok-basis.ensures.width) c.requires.fits.wide) c.requires.fits.of
