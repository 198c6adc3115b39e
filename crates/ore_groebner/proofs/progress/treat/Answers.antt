use Rattle.std.proofs.Common.{sym, subst}
use Rattle.std.proofs.lemmas.Result.{err_from_is_err_and}
use Rattle.ore_monomial.specs.Gives.{Gives}
use Rattle.ore_monomial.proofs.Stops.{fails_like}
use Rattle.ore_groebner.specs.RunProgress.{run_state}
use Rattle.ore_groebner.proofs.ProgressParts.{treat_first, treat_second, treat_last}
use Rattle.ore_groebner.proofs.progress.treat.Goals as goal

pub returns-in_err-row-clause-gives : goal.returns-in_err-row-clause-gives
returns-in_err-row-clause-gives g c =
    let p = err_from_is_err_and c.from_residual.result c.from_residual.ensures.1 in
    rw (p.1, p.2) (fails_like _ _ _ (λ e h. treat_first (g.R.OreRing.sig c.args.ring.now) (run_state c.args.progress) c.args.i c.args.j e h) c.in_err-row.ensures.gives)

pub returns-in_err-work-clause-gives : goal.returns-in_err-work-clause-gives
returns-in_err-work-clause-gives g c =
    let p = err_from_is_err_and c.from_residual-in_err-work.result c.from_residual-in_err-work.ensures.1 in
    rw (p.1, p.2) (fails_like _ _ _ (λ e h. treat_second (g.R.OreRing.sig c.args.ring.now) (run_state c.args.progress) c.args.i c.args.j _ e c.in_ok-row.ensures.gives h) c.in_err-work.ensures.gives)

pub returns-clause-gives : goal.returns-clause-gives
returns-clause-gives g c = subst (Gives run_state c.add_remainder.result) (sym (treat_last (g.R.OreRing.sig c.args.ring.now) (run_state c.args.progress) c.args.i c.args.j _ _ c.in_ok-row.ensures.gives c.in_ok-work.ensures.gives)) c.add_remainder.ensures.gives
